use Rattle.std.proofs.Common.{◌≡◌, ◌≤◌, ◌*◌, ◌+◌, length, take}
use Rattle.std.specs.List.{flat_map}
use Rattle.helios_model.specs.World.{journaled}
use Rattle.log_records.specs.Entries.{entry_bytes}
use Rattle.log_records.proofs.entries.journaled_length.Given as goal

-- the count's byte, and the bytes of the entries so far
abbrev pub invariant-loop-e : goal.invariant-loop-e
invariant-loop-e l = (l.length ≡ 1 + length (flat_map entry_bytes (journaled (take l.e-index l.entries)))) × (l.length ≤ 1 + 1213485 * l.e-index)
