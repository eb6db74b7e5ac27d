use Rattle.std.proofs.Common.{◌∙◌, ap, filter, not, rules}
use Rattle.std.proofs.lemmas.Fn.{filter_same}
use Rattle.helios_model.specs.Ids.{same_id}
use Rattle.prepare_pools.proofs.touch.Touches.remove.Goals as goal

pub returns : goal.returns
returns c =
    filter_same _ (λ t. not (same_id t.id c.args.id.now)) _ (λ x b f' t. search rules) _ _ c.retain.ensures.filtered ∙
    ap (filter (λ t. not (same_id t.id c.args.id.now))) c.self.view_is
