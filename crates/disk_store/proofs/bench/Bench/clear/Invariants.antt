use Rattle.std.proofs.Common.{◌≡◌, ◌++◌, map, take, drop}
use Rattle.disk_store.specs.Memory.{cleared}
use Rattle.disk_store.proofs.bench.Bench.clear.Given as goal

abbrev pub invariant-loop-disk : goal.invariant-loop-disk
invariant-loop-disk l = l.disk-items ≡ map cleared (take l.disk-index l.initial.disk-items) ++ drop l.disk-index l.initial.disk-items
