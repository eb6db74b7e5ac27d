use Rattle.std.proofs.Common.{◌≡◌, ℕ, ◌+◌, ◌<◌, ◌≤◌, get_or}
use Rattle.weighted_plan.proofs.shifts.raise.Given as goal

-- the columns so far are raised, and the others are as they were
abbrev pub invariant-loop-column : goal.invariant-loop-column
invariant-loop-column l = record {
  inside : (j : ℕ) → j < l.column → 1 ≤ get_or l.turns j 0 → get_or l.v j 0 ≡ get_or l.initial.v j 0 + l.by;
  outside : (j : ℕ) → j < l.column → get_or l.turns j 0 ≡ 0 → get_or l.v j 0 ≡ get_or l.initial.v j 0;
  rest : (j : ℕ) → l.column ≤ j → get_or l.v j 0 ≡ get_or l.initial.v j 0;
}
