use Rattle.std.proofs.Common.{◌≡◌, ℕ, ◌<◌, length, get_or}
use Rattle.latency_assign.proofs.assignment.by_number.Given as goal

abbrev pub invariant-loop-place : goal.invariant-loop-place
invariant-loop-place l = record {
  size : length l.v.items ≡ length l.s;
  placed : (q : ℕ) → q < l.place → get_or l.v.items (get_or l.s q 0) 0 ≡ get_or l.w q 0;
}
