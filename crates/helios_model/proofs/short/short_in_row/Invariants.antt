use Rattle.helios_model.specs.Short.{IsRowReached}
use Rattle.helios_model.proofs.short.short_in_row.Given as goal

abbrev pub invariant-loop-j : goal.invariant-loop-j
invariant-loop-j l = IsRowReached l.plan l.site l.j
