use Rattle.std.proofs.Common.{ℕ, ◌<◌, get_or}
use Rattle.helios_model.specs.declared.entries.Entry.{Entry}
use Rattle.node_host.specs.Opening.{IsForSite}
use Rattle.node_host.proofs.recovery.are_for_site.Given as goal

abbrev pub invariant-loop-e : goal.invariant-loop-e
invariant-loop-e l = (k : ℕ) (d : Entry) → k < l.e-index → IsForSite l.site (get_or l.entries k d).input
