use Rattle.std.proofs.Common.{◌≡◌, ◌≤◌, ◌*◌, ◌+◌, length, take}
use Rattle.std.specs.List.{flat_map}
use Rattle.log_records.specs.Items.{put_bytes}
use Rattle.log_records.proofs.asking.puts_length.Given as goal

-- the count's byte, and the bytes of the items so far
abbrev pub invariant-loop-put : goal.invariant-loop-put
invariant-loop-put l = (l.length ≡ 1 + length (flat_map put_bytes (take l.put-index l.puts))) × (l.length ≤ 1 + 1091 * l.put-index)
