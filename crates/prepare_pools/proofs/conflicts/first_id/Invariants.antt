use Rattle.std.proofs.Common.{◌≡◌, ◌||◌, drop, find}
use Rattle.prepare_pools.proofs.conflicts.first_id.Given as goal

abbrev pub invariant-loop-touch : goal.invariant-loop-touch
invariant-loop-touch l = find (λ t. l.any || t.write) (drop l.touch-index l.touches) ≡ find (λ t. l.any || t.write) l.touches
