use Rattle.std.proofs.Common.{◌≡◌, ℕ, ◌+◌, ◌<◌, ◌≤◌, get_or}
use Rattle.latency_assign.specs.Assignment.{count_of, distance}
use Rattle.latency_assign.proofs.lacks.nearest.Given as goal

-- the best place so far
abbrev pub invariant-loop-place : goal.invariant-loop-place
invariant-loop-place l = record {
  within : l.best < count_of l.m;
  outside : get_or l.order l.best 0 ≤ 1;
  lacks : l.least + distance l.m (get_or l.near l.best 0) (get_or l.s l.best 0) ≡ get_or l.u (get_or l.near l.best 0) 0 + get_or l.w l.best 0;
  least : (q : ℕ) → q < l.place → get_or l.order q 0 ≤ 1 → l.least + distance l.m (get_or l.near q 0) (get_or l.s q 0) ≤ get_or l.u (get_or l.near q 0) 0 + get_or l.w q 0;
}
