use Rattle.std.proofs.Common.{◌∙◌, ap}
use Rattle.std.specs.List.{list_any}
use Rattle.helios_model.specs.declared.transactions.WriteItem.{WriteItem}
use Rattle.helios_model.specs.Texts.{same_text}
use Rattle.helios_model.proofs.Overlaps.{any_mapped}
use Rattle.helios_model.proofs.transactions.Prepare.is_writing.Goals as goal

pub returns : goal.returns
returns c =
    c.is_among.ensures
    ∙ ap (λ ws. list_any (λ (w : WriteItem). same_text w.key c.args.key.now) ws) (c.items.ensures ∙ c.writes.ensures.value)
    ∙ any_mapped (λ (w : WriteItem). w.key) (λ other. same_text other c.args.key.now) c.args.self.now.writes
