use Rattle.std.proofs.Common.{◌≡◌, ◌≤◌, ◌*◌}
use Rattle.helios_model.specs.Grid.{at}
use Rattle.helios_model.specs.Pairings.{sum_below}
use Rattle.weighted_plan.specs.Weighted.{greatest_weight}
use Rattle.weighted_plan.proofs.sums.row_sum.Given as goal

abbrev pub invariant-loop-column : goal.invariant-loop-column
invariant-loop-column l = record {
  so_far : l.sum ≡ sum_below (λ j. at l.count l.flow l.row j) l.column;
  bounded : l.sum ≤ l.column * greatest_weight;
}
