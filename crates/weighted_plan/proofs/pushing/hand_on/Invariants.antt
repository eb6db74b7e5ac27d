use Rattle.std.proofs.Common.{get_or}
use Rattle.weighted_plan.specs.Handing.{IsHanding}
use Rattle.weighted_plan.proofs.pushing.hand_on.Given as goal

abbrev pub invariant-loop-column : goal.invariant-loop-column
invariant-loop-column l = IsHanding l.count l.tree.order.items l.tree.turns.items l.tree.near.items l.tree.via.items l.tree.room.items l.fn.flow l.end l.amount l.flow l.row

abbrev pub decreases-loop-column : goal.decreases-loop-column
decreases-loop-column l = get_or l.tree.order.items l.row 0
