use Rattle.std.proofs.Common.{length}
use Rattle.prepare_pools.proofs.index.+untouch_each.Given as goal

abbrev pub decreases-untouch_each : goal.decreases-untouch_each
decreases-untouch_each g l = length l.items.now
