use Rattle.std.proofs.Common.{◌≡◌, replicate}
use Rattle.disk_store.specs.Memory.{empty_disk}
use Rattle.disk_store.proofs.bench.Bench.new.Given as goal

abbrev pub invariant-loop : goal.invariant-loop
invariant-loop l = l.disks.items ≡ replicate l.counter empty_disk
