use Rattle.std.proofs.Common.{arith}
use Rattle.disk_store.specs.Memory.{cleared}
use Rattle.disk_store.proofs.Clearing.{mapped_more}
use Rattle.disk_store.proofs.bench.Bench.clear.Goals as goal

pub loop-disk-preserved : goal.loop-disk-preserved
loop-disk-preserved c = rw (c.clear.ensures, ← c.disk-item.is) (mapped_more cleared _ _ _ c.disk-item.result (omega arith) c.loop-disk.invariant c.disk-item.is)
