use Rattle.std.proofs.Common.{◌≡◌, [], replicate}
use Rattle.log_exchange.proofs.backlog.Backlog.new.Given as goal

abbrev pub invariant-loop : goal.invariant-loop
invariant-loop l = l.runs.items ≡ replicate l.counter []
