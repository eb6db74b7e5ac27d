use Rattle.std.proofs.Common.{◌≡◌, ◌≤◌, ◌*◌, get_or}
use Rattle.helios_model.specs.Pairings.{sum_below}
use Rattle.weighted_plan.proofs.sums.weighted_sum.Given as goal

-- the weighted latencies of the sites so far
abbrev pub invariant-loop-i : goal.invariant-loop-i
invariant-loop-i l = record {
  so_far : l.sum ≡ sum_below (λ i. get_or l.weights i 0 * get_or l.plan.latencies i 0) l.i;
  bounded : l.sum ≤ l.i * 2000000000000;
}
