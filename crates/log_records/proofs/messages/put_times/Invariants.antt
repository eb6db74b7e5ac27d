use Rattle.std.proofs.Common.{◌≡◌, ◌++◌, take}
use Rattle.log_records.specs.Messages.{times_bytes}
use Rattle.log_records.proofs.messages.put_times.Given as goal

-- behind what the buffer had stand the times so far
abbrev pub invariant-loop-time : goal.invariant-loop-time
invariant-loop-time l = l.out.items ≡ l.fn.out.items ++ times_bytes (take l.time-index l.times)
