use Rattle.latency_assign.specs.Assignment.{count_of, distance}
use Rattle.latency_assign.specs.Search.{IsMatched}
use Rattle.latency_assign.proofs.assignment.matched.Given as goal

abbrev pub invariant-loop-k : goal.invariant-loop-k
invariant-loop-k l = IsMatched (count_of l.m) (distance l.m) l.k l.u.items l.w.items l.s.items
