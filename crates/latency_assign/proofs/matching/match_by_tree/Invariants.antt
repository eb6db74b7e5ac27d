use Rattle.std.proofs.Common.{get_or}
use Rattle.latency_assign.specs.Assignment.{count_of, distance}
use Rattle.latency_assign.specs.Search.{IsPath}
use Rattle.latency_assign.proofs.matching.match_by_tree.Given as goal

abbrev pub invariant-loop-row : goal.invariant-loop-row
invariant-loop-row l = IsPath (count_of l.m) (distance l.m) l.k l.u l.w l.s l.order l.near l.row

abbrev pub decreases-loop-row : goal.decreases-loop-row
decreases-loop-row l = get_or l.order l.row 0
