use Rattle.std.specs.Prelude.{sum}
use Rattle.weighted_plan.specs.Transport.{IsTransport}
use Rattle.weighted_plan.specs.Trips.{count_of, distance}
use Rattle.weighted_plan.proofs.weighing.transported.Given as goal

abbrev pub invariant-loop-row : goal.invariant-loop-row
invariant-loop-row l = IsTransport (count_of l.m) (distance l.m) l.weights l.u.items l.v.items l.flow.items l.supply.items l.demand.items

abbrev pub decreases-loop-row : goal.decreases-loop-row
decreases-loop-row l = sum l.supply.items
