use Rattle.std.proofs.Common.{◌≡◌, ◌++◌, ◌∷◌, length, take}
use Rattle.std.specs.List.{flat_map}
use Rattle.log_records.specs.Records.{record_bytes}
use Rattle.log_records.proofs.messages.put_records.Given as goal

-- behind what the buffer had stand the count and the records so far
abbrev pub invariant-loop-r : goal.invariant-loop-r
invariant-loop-r l = l.out.items ≡ l.fn.out.items ++ (length l.records ∷ flat_map record_bytes (take l.r-index l.records))
