use Rattle.std.proofs.Common.{ℕ, ◌+◌, ◌<◌, ◌≤◌, get_or}
use Rattle.helios_model.specs.Grid.{at}
use Rattle.weighted_plan.specs.Trees.{GrowsOn, HasJoined}
use Rattle.weighted_plan.specs.Trips.{count_of, distance}
use Rattle.weighted_plan.proofs.growing.join_rows.Given as goal

-- the rows so far that send to the column stand in the tree
abbrev pub invariant-loop-row : goal.invariant-loop-row
invariant-loop-row l = record {
  grows : GrowsOn (count_of l.m) (distance l.m) (l.turn + 1) l.u l.flow l.tree;
  joined : HasJoined (count_of l.m) l.initial.tree l.tree;
  closed : (i : ℕ) → i < l.row → 1 ≤ at (count_of l.m) l.flow i l.column → 1 ≤ get_or l.tree.order.items i 0;
}
