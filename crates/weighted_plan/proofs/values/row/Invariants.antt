use Rattle.std.proofs.Common.{◌≡◌, map}
use Rattle.std.specs.List.{range_with_len}
use Rattle.helios_model.specs.Grid.{at}
use Rattle.serde_json.specs.View.{view}
use Rattle.weighted_plan.specs.Printing.{whole}
use Rattle.weighted_plan.proofs.values.row.Given as goal

abbrev pub invariant-loop-column : goal.invariant-loop-column
invariant-loop-column l = map view l.items.items ≡ map (λ j. whole (at l.count l.square l.place j)) (range_with_len 0 l.column)
