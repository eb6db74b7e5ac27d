use Rattle.std.proofs.Common.{length}
use Rattle.log_exchange.specs.Runs.{run_of}
use Rattle.log_exchange.proofs.Fronts.{IsFront}
use Rattle.log_exchange.proofs.backlog.Backlog.drop_front.Given as goal

abbrev pub invariant-loop-k : goal.invariant-loop-k
invariant-loop-k l = IsFront l.initial.self l.self l.t.times l.k

abbrev pub decreases-loop-k : goal.decreases-loop-k
decreases-loop-k l = length (run_of l.k l.self.entries)
