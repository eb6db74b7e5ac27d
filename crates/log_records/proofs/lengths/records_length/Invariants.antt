use Rattle.std.proofs.Common.{◌≡◌, ◌≤◌, ◌*◌, ◌+◌, length, take}
use Rattle.std.specs.List.{flat_map}
use Rattle.log_records.specs.Records.{record_bytes}
use Rattle.log_records.proofs.lengths.records_length.Given as goal

-- the count's byte, and the bytes of the records so far
abbrev pub invariant-loop-r : goal.invariant-loop-r
invariant-loop-r l = (l.length ≡ 1 + length (flat_map record_bytes (take l.r-index l.records))) × (l.length ≤ 1 + 18828 * l.r-index)
