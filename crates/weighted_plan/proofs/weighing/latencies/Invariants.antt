use Rattle.std.proofs.Common.{◌≡◌, ℕ, ◌+◌, ◌<◌, length, get_or}
use Rattle.weighted_plan.proofs.weighing.latencies.Given as goal

abbrev pub invariant-loop-i : goal.invariant-loop-i
invariant-loop-i l = record {
  size : length l.sums.items ≡ l.i;
  sums : (k : ℕ) → k < l.i → get_or l.sums.items k 0 ≡ get_or l.u k 0 + get_or l.v k 0;
}
