use Rattle.latency_assign.specs.Assignment.{count_of, distance}
use Rattle.latency_assign.specs.Search.{IsTree, columns_left}
use Rattle.latency_assign.proofs.matching.grow.Given as goal

abbrev pub invariant-loop-k : goal.invariant-loop-k
invariant-loop-k l = IsTree (count_of l.m) (distance l.m) l.k l.turn l.u l.w l.s l.order l.near

abbrev pub decreases-loop-k : goal.decreases-loop-k
decreases-loop-k l = columns_left l.order
