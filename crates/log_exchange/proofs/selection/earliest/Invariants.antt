use Rattle.log_exchange.specs.Heads.{IsLeast}
use Rattle.log_exchange.proofs.selection.earliest.Given as goal

abbrev pub invariant-loop-k : goal.invariant-loop-k
invariant-loop-k l = IsLeast l.backlog l.heads l.k l.best
