use Rattle.std.proofs.Common.{◌≡◌, map}
use Rattle.std.specs.List.{range_with_len}
use Rattle.helios_model.specs.Plans.{count_of}
use Rattle.serde_json.specs.View.{view}
use Rattle.commit_offsets.specs.Printing.{row_data}
use Rattle.commit_offsets.proofs.values.square.Given as goal

abbrev pub invariant-loop-i : goal.invariant-loop-i
invariant-loop-i g l = map view l.rows.items ≡ map (λ i. row_data (count_of l.plan) (g.T.OfTwoSites.said l.plan i)) (range_with_len 0 l.i)
