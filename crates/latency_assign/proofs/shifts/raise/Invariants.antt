use Rattle.std.proofs.Common.{◌≡◌, ℕ, ◌+◌, ◌<◌, ◌≤◌, get_or}
use Rattle.latency_assign.proofs.shifts.raise.Given as goal

-- the places so far are raised, and the others are as they were
abbrev pub invariant-loop-place : goal.invariant-loop-place
invariant-loop-place l = record {
  inside : (q : ℕ) → q < l.place → 2 ≤ get_or l.order q 0 → get_or l.w q 0 ≡ get_or l.initial.w q 0 + l.by;
  outside : (q : ℕ) → q < l.place → get_or l.order q 0 ≤ 1 → get_or l.w q 0 ≡ get_or l.initial.w q 0;
  rest : (q : ℕ) → l.place ≤ q → get_or l.w q 0 ≡ get_or l.initial.w q 0;
}
