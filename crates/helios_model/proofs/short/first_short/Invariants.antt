use Rattle.std.proofs.Common.{ℕ, ◌<◌}
use Rattle.helios_model.specs.Plans.{count_of}
use Rattle.helios_model.specs.Short.{IsRowReached}
use Rattle.helios_model.proofs.short.first_short.Given as goal

abbrev pub invariant-loop-i : goal.invariant-loop-i
invariant-loop-i l = (k : ℕ) → k < l.i → IsRowReached l.plan k (count_of l.plan)
