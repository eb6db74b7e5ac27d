use Rattle.std.proofs.Common.{◌≡◌, map}
use Rattle.std.specs.List.{range_with_len}
use Rattle.serde_json.specs.View.{view}
use Rattle.weighted_plan.specs.Printing.{row_data}
use Rattle.weighted_plan.proofs.values.square.Given as goal

abbrev pub invariant-loop-place : goal.invariant-loop-place
invariant-loop-place l = map view l.rows.items ≡ map (row_data l.count l.square) (range_with_len 0 l.place)
