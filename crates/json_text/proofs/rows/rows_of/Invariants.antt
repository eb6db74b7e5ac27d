use Rattle.std.proofs.Common.{◌≡◌, ◌*◌, drop, length}
use Rattle.std.specs.Prelude.{option_map}
use Rattle.std.specs.List.{flat_map}
use Rattle.serde_json.specs.View.{items_view}
use Rattle.json_text.specs.Lists.{each_of}
use Rattle.json_text.specs.Arrays.{row_of}
use Rattle.json_text.proofs.RowSteps.{stacked}
use Rattle.json_text.proofs.rows.rows_of.Given as goal

-- the rows so far and those of the values that are left are those of all values
abbrev pub invariant-loop-value : goal.invariant-loop-value
invariant-loop-value g l = record {
  joined : stacked l.numbers.items (each_of (row_of l.count g.N.JsonNumber.of) (items_view (drop l.value-index l.rows))) ≡ option_map (flat_map (λ row. row)) (each_of (row_of l.count g.N.JsonNumber.of) (items_view l.rows));
  size : length l.numbers.items ≡ l.value-index * l.count;
}
