use Rattle.std.proofs.Common.{◌∙◌, sym}
use Rattle.prepare_pools.proofs.Gathered.{touch_added, touch_missing}
use Rattle.prepare_pools.proofs.gathering.gather_touch.Goals as goal

pub returns-in_ok-insert-in-Some : goal.returns-in_ok-insert-in-Some
returns-in_ok-insert-in-Some c =
    touch_added _ _ _ c.args.touch.now.id _ c.in-Some.arrival c.requires (sym c.is_chosen.ensures ∙ c.if-not-is_chosen.false) (sym c.in-Some.ensures) c.in_ok-insert-in-Some.ensures.updates.0

pub returns-in-None : goal.returns-in-None
returns-in-None c = touch_missing _ _ c.args.touch.now.id _ (sym c.in-None.ensures)
