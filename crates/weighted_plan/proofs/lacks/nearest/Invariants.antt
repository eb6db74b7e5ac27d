use Rattle.std.proofs.Common.{◌≡◌, ℕ, ◌+◌, ◌<◌, ◌≤◌, get_or}
use Rattle.weighted_plan.specs.Trips.{count_of, distance}
use Rattle.weighted_plan.proofs.lacks.nearest.Given as goal

-- the best column so far
abbrev pub invariant-loop-column : goal.invariant-loop-column
invariant-loop-column l = record {
  within : l.best < count_of l.m;
  outside : get_or l.turns l.best 0 ≡ 0;
  lacks : l.least + distance l.m (get_or l.near l.best 0) l.best ≡ get_or l.u (get_or l.near l.best 0) 0 + get_or l.v l.best 0;
  least : (j : ℕ) → j < l.column → get_or l.turns j 0 ≡ 0 → l.least + distance l.m (get_or l.near j 0) j ≤ get_or l.u (get_or l.near j 0) 0 + get_or l.v j 0;
}
