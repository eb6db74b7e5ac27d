use Rattle.std.proofs.Common.{◌≡◌, ◌++◌, ◌∷◌, length, take}
use Rattle.std.specs.List.{flat_map}
use Rattle.log_records.specs.Items.{write_bytes}
use Rattle.log_records.proofs.encoding.put_writes.Given as goal

-- behind what the buffer had stand the count and the items so far
abbrev pub invariant-loop-write : goal.invariant-loop-write
invariant-loop-write l = l.out.items ≡ l.fn.out.items ++ (length l.writes ∷ flat_map write_bytes (take l.write-index l.writes))
