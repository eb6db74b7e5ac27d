use Rattle.std.proofs.Common.{◌≡◌, ◌≤◌, ◌*◌}
use Rattle.helios_model.specs.Grid.{at}
use Rattle.helios_model.specs.Limits.{most_sites}
use Rattle.helios_model.specs.Pairings.{sum_below}
use Rattle.helios_model.specs.Plans.{count_of, rtt}
use Rattle.weighted_plan.proofs.sums.flow_value.Given as goal

abbrev pub invariant-loop-row : goal.invariant-loop-row
invariant-loop-row l = record {
  so_far : l.value ≡ sum_below (λ i. sum_below (λ j. rtt l.plan i j * at (count_of l.plan) l.flow i j) (count_of l.plan)) l.row;
  bounded : l.value ≤ l.row * (most_sites * 1000000000000);
}
