use Rattle.std.proofs.Common.{◌≡◌, map}
use Rattle.std.specs.List.{range_with_len}
use Rattle.serde_json.specs.View.{view}
use Rattle.commit_offsets.proofs.values.row.Given as goal

abbrev pub invariant-loop-j : goal.invariant-loop-j
invariant-loop-j g l = map view l.items.items ≡ map (g.T.OfTwoSites.said l.plan l.site) (range_with_len 0 l.j)
