use Rattle.std.proofs.Common.{◌≡◌, ◌≤◌, length, take}
use Rattle.helios_model.specs.World.{journaled}
use Rattle.log_records.proofs.entries.journaled_count.Given as goal

-- as many as are kept of the entries so far
abbrev pub invariant-loop-e : goal.invariant-loop-e
invariant-loop-e l = (l.count ≡ length (journaled (take l.e-index l.entries))) × (l.count ≤ l.e-index)
