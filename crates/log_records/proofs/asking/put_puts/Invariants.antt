use Rattle.std.proofs.Common.{◌≡◌, ◌++◌, ◌∷◌, length, take}
use Rattle.std.specs.List.{flat_map}
use Rattle.log_records.specs.Items.{put_bytes}
use Rattle.log_records.proofs.asking.put_puts.Given as goal

-- behind what the buffer had stand the count and the items so far
abbrev pub invariant-loop-put : goal.invariant-loop-put
invariant-loop-put l = l.out.items ≡ l.fn.out.items ++ (length l.puts ∷ flat_map put_bytes (take l.put-index l.puts))
