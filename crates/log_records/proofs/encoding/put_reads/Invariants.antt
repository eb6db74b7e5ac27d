use Rattle.std.proofs.Common.{◌≡◌, ◌++◌, ◌∷◌, length, take}
use Rattle.std.specs.List.{flat_map}
use Rattle.log_records.specs.Items.{read_bytes}
use Rattle.log_records.proofs.encoding.put_reads.Given as goal

-- behind what the buffer had stand the count and the items so far
abbrev pub invariant-loop-read : goal.invariant-loop-read
invariant-loop-read l = l.out.items ≡ l.fn.out.items ++ (length l.reads ∷ flat_map read_bytes (take l.read-index l.reads))
