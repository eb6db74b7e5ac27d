use Rattle.std.proofs.Common.{length}
use Rattle.prepare_pools.proofs.conflicts.+first_among.Given as goal

abbrev pub decreases-first_among : goal.decreases-first_among
decreases-first_among g l = length l.items.now
