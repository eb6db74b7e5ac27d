use Rattle.std.proofs.Common.{◌∙◌, ap, sym, subst}
use Rattle.helios_model.specs.Texts.{IsValue}
use Rattle.helios_model.specs.Log.{current_value}
use Rattle.site_ledger.specs.Ledger.{IsLedgerOf, log_in}
use Rattle.site_node.specs.Node.{node_in}
use Rattle.commit_rules.proofs.answers.answer_get.Goals as goal

pub of-value-requires : goal.of-value-requires
of-value-requires c =
    let s = c.args.node.now in
    let b = c.requires.base in
    subst IsValue
    (sym (c.new.ensures ∙ c.in_ok-from_slice.ensures.items
    ∙ c.current-version.ensures.value b (subst (IsLedgerOf b) (sym c.ledger.ensures) c.requires.is.ledger)
    ∙ ap (λ l. current_value (log_in b l) c.args.key.now) c.ledger.ensures))
    (c.each_current_value_is_a_value.ensures s.plan (node_in b s) c.args.key.now c.requires.sound)
