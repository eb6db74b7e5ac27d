use Rattle.std.proofs.Common.{◌≡◌, ◌≤◌, ◌*◌}
use Rattle.helios_model.specs.Grid.{at}
use Rattle.helios_model.specs.Pairings.{sum_below}
use Rattle.helios_model.specs.Plans.{count_of, rtt}
use Rattle.weighted_plan.proofs.sums.row_value.Given as goal

abbrev pub invariant-loop-column : goal.invariant-loop-column
invariant-loop-column l = record {
  so_far : l.value ≡ sum_below (λ j. rtt l.plan l.row j * at (count_of l.plan) l.flow l.row j) l.column;
  bounded : l.value ≤ l.column * 1000000000000;
}
