use Rattle.std.proofs.Common.{length}
use Rattle.helios_model.proofs.transactions.+is_overwriting.Given as goal

abbrev pub decreases-is_overwriting : goal.decreases-is_overwriting
decreases-is_overwriting g l = length l.written.now
