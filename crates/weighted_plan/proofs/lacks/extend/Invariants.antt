use Rattle.std.proofs.Common.{◌≡◌, ◌⊎◌, ℕ, ◌<◌, ◌≤◌, get_or}
use Rattle.weighted_plan.specs.Growing.{IsCloser}
use Rattle.weighted_plan.specs.Trips.{distance}
use Rattle.weighted_plan.proofs.lacks.extend.Given as goal

-- the columns so far have the closer row, and the others are as they were
abbrev pub invariant-loop-column : goal.invariant-loop-column
invariant-loop-column l = record {
  inner : (j : ℕ) → j < l.column → 1 ≤ get_or l.turns j 0 → get_or l.near j 0 ≡ get_or l.initial.near j 0;
  chosen : (j : ℕ) → j < l.column → get_or l.turns j 0 ≡ 0 → (get_or l.near j 0 ≡ get_or l.initial.near j 0) ⊎ (get_or l.near j 0 ≡ l.row);
  before : (j : ℕ) → j < l.column → get_or l.turns j 0 ≡ 0 → IsCloser (distance l.m) l.u j (get_or l.near j 0) (get_or l.initial.near j 0);
  joining : (j : ℕ) → j < l.column → get_or l.turns j 0 ≡ 0 → IsCloser (distance l.m) l.u j (get_or l.near j 0) l.row;
  rest : (j : ℕ) → l.column ≤ j → get_or l.near j 0 ≡ get_or l.initial.near j 0;
}
