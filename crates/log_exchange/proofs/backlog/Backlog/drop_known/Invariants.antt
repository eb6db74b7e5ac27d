use Rattle.log_exchange.proofs.Fronts.{IsCleared}
use Rattle.log_exchange.proofs.backlog.Backlog.drop_known.Given as goal

abbrev pub invariant-loop-k : goal.invariant-loop-k
invariant-loop-k l = IsCleared l.initial.self l.self l.t.times l.k
