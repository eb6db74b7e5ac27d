use Rattle.std.proofs.Common.{◌≤◌, get_or}
use Rattle.weighted_plan.specs.Growing.{columns_left}
use Rattle.weighted_plan.specs.Trees.{StandsOn}
use Rattle.weighted_plan.specs.Trips.{count_of, distance}
use Rattle.weighted_plan.proofs.growing.grow.Given as goal

abbrev pub invariant-loop-free : goal.invariant-loop-free
invariant-loop-free l = record {
  tree : StandsOn (count_of l.m) (distance l.m) (λ i. get_or l.fn.tree.room.items i 0) l.turn l.u l.v l.flow l.demand l.tree;
  late : 2 ≤ l.turn;
}

abbrev pub decreases-loop-free : goal.decreases-loop-free
decreases-loop-free l = columns_left l.tree.turns.items
