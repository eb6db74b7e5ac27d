use Rattle.std.proofs.Common.{◌≡◌, ℕ, ◌<◌, length, get_or, pos}
use Rattle.std.specs.Prelude.{◌+ℤ◌}
use Rattle.latency_assign.specs.Assignment.{potential}
use Rattle.plan_certificate.proofs.planning.sums.Given as goal

abbrev pub invariant-loop-i : goal.invariant-loop-i
invariant-loop-i l = record {
  size : length l.sums.items ≡ l.i;
  sums : (k : ℕ) → k < l.i → pos (get_or l.sums.items k 0) ≡ (potential l.u k +ℤ potential l.v k);
}
