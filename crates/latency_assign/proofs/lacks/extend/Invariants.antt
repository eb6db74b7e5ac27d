use Rattle.std.proofs.Common.{◌≡◌, ◌⊎◌, ℕ, ◌<◌, ◌≤◌, get_or}
use Rattle.latency_assign.specs.Assignment.{distance}
use Rattle.latency_assign.specs.Search.{IsCloser}
use Rattle.latency_assign.proofs.lacks.extend.Given as goal

-- the places so far have the closer row, and the others are as they were
abbrev pub invariant-loop-place : goal.invariant-loop-place
invariant-loop-place l = record {
  inner : (q : ℕ) → q < l.place → 2 ≤ get_or l.order q 0 → get_or l.near q 0 ≡ get_or l.initial.near q 0;
  chosen : (q : ℕ) → q < l.place → get_or l.order q 0 ≤ 1 → (get_or l.near q 0 ≡ get_or l.initial.near q 0) ⊎ (get_or l.near q 0 ≡ l.row);
  before : (q : ℕ) → q < l.place → get_or l.order q 0 ≤ 1 → IsCloser (distance l.m) l.u (get_or l.s q 0) (get_or l.near q 0) (get_or l.initial.near q 0);
  joining : (q : ℕ) → q < l.place → get_or l.order q 0 ≤ 1 → IsCloser (distance l.m) l.u (get_or l.s q 0) (get_or l.near q 0) l.row;
  rest : (q : ℕ) → l.place ≤ q → get_or l.near q 0 ≡ get_or l.initial.near q 0;
}
