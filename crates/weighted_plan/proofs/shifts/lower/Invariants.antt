use Rattle.std.proofs.Common.{◌≡◌, ℕ, ◌+◌, ◌<◌, ◌≤◌, get_or}
use Rattle.weighted_plan.proofs.shifts.lower.Given as goal

-- the rows so far are lowered, and the others are as they were
abbrev pub invariant-loop-row : goal.invariant-loop-row
invariant-loop-row l = record {
  inside : (i : ℕ) → i < l.row → 1 ≤ get_or l.order i 0 → get_or l.u i 0 + l.by ≡ get_or l.initial.u i 0;
  outside : (i : ℕ) → i < l.row → get_or l.order i 0 ≡ 0 → get_or l.u i 0 ≡ get_or l.initial.u i 0;
  rest : (i : ℕ) → l.row ≤ i → get_or l.u i 0 ≡ get_or l.initial.u i 0;
}
