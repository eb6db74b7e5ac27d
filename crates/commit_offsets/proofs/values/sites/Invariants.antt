use Rattle.std.proofs.Common.{◌≡◌, map, take}
use Rattle.serde_json.specs.View.{view}
use Rattle.commit_offsets.specs.Printing.{whole}
use Rattle.commit_offsets.proofs.values.sites.Given as goal

abbrev pub invariant-loop-site : goal.invariant-loop-site
invariant-loop-site l = map view l.items.items ≡ map whole (take l.site-index l.sites)
