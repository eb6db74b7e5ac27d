use Rattle.std.proofs.Common.{◌≡◌, ◌≤◌, ◌*◌, ◌+◌, length, take}
use Rattle.std.specs.List.{flat_map}
use Rattle.log_records.specs.Items.{read_bytes}
use Rattle.log_records.proofs.lengths.reads_length.Given as goal

-- the count's byte, and the bytes of the items so far
abbrev pub invariant-loop-read : goal.invariant-loop-read
invariant-loop-read l = (l.length ≡ 1 + length (flat_map read_bytes (take l.read-index l.reads))) × (l.length ≤ 1 + 75 * l.read-index)
