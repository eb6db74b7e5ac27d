use Rattle.time_table.specs.Table.{time_at}
use Rattle.log_exchange.specs.Heads.{IsStarted}
use Rattle.log_exchange.proofs.selection.first_heads.Given as goal

abbrev pub invariant-loop-k : goal.invariant-loop-k
invariant-loop-k l = IsStarted l.backlog (time_at l.t l.to) l.heads.items l.k
