use Rattle.std.proofs.Common.{◌≡◌, ◌≤◌, ◌*◌, ◌+◌, length, take}
use Rattle.std.specs.List.{flat_map}
use Rattle.log_records.specs.Items.{write_bytes}
use Rattle.log_records.proofs.lengths.writes_length.Given as goal

-- the count's byte, and the bytes of the items so far
abbrev pub invariant-loop-write : goal.invariant-loop-write
invariant-loop-write l = (l.length ≡ 1 + length (flat_map write_bytes (take l.write-index l.writes))) × (l.length ≤ 1 + 1101 * l.write-index)
