use Rattle.std.proofs.Common.{◌≡◌, take, map, pos}
use Rattle.latency_assign.proofs.assignment.ints.Given as goal

abbrev pub invariant-loop-number : goal.invariant-loop-number
invariant-loop-number l = l.whole.items ≡ map pos (take l.number-index l.numbers)
