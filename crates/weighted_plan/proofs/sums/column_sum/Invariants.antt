use Rattle.std.proofs.Common.{◌≡◌, ◌≤◌, ◌*◌}
use Rattle.helios_model.specs.Grid.{at}
use Rattle.helios_model.specs.Pairings.{sum_below}
use Rattle.weighted_plan.specs.Weighted.{greatest_weight}
use Rattle.weighted_plan.proofs.sums.column_sum.Given as goal

abbrev pub invariant-loop-row : goal.invariant-loop-row
invariant-loop-row l = record {
  so_far : l.sum ≡ sum_below (λ i. at l.count l.flow i l.column) l.row;
  bounded : l.sum ≤ l.row * greatest_weight;
}
