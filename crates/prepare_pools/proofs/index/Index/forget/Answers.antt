use Rattle.std.proofs.Common.{◌∙◌, ap, sym, Some, unwrap_or, []}
use Rattle.std.specs.Option.{option_copied_mut}
use Rattle.prepare_pools.specs.Touches.{without_id}
use Rattle.prepare_pools.proofs.Lists.{list_changed}
use Rattle.prepare_pools.proofs.index.Index.forget.Goals as goal

pub returns-then-contains_key : goal.returns-then-contains_key
returns-then-contains_key c =
    list_changed c.args.key.now (without_id c.args.id.now) _ _ _ (Some c.remove.new.self) c.self.view_is
    ((c.get_mut.follows.holds c.remove.new.self).3 (sym c.contains_key.ensures ∙ c.if-contains_key.true)).0
    (c.remove.ensures ∙ ap (λ o. without_id c.args.id.now (unwrap_or o [])) (sym (ap option_copied_mut c.unwrap.ensures) ∙ c.get_mut.ensures.value))
