use Rattle.std.proofs.Common.{◌≡◌, ◌≤◌, ◌*◌, get_or}
use Rattle.helios_model.specs.Limits.{longest_trip}
use Rattle.helios_model.specs.Plans.{rtt}
use Rattle.helios_model.specs.Pairings.{sum_below}
use Rattle.plan_certificate.proofs.judge.value_of.Given as goal

-- the round trips of the sites so far
abbrev pub invariant-loop-i : goal.invariant-loop-i
invariant-loop-i l = record {
  so_far : l.value ≡ sum_below (λ i. rtt l.plan i (get_or l.pair i 0)) l.i;
  bounded : l.value ≤ l.i * longest_trip;
}
