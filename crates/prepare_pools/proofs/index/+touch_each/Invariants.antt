use Rattle.std.proofs.Common.{length}
use Rattle.prepare_pools.proofs.index.+touch_each.Given as goal

abbrev pub decreases-touch_each : goal.decreases-touch_each
decreases-touch_each g l = length l.items.now
