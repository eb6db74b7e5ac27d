use Rattle.std.proofs.Common.{◌≡◌, map}
use Rattle.prepare_pools.proofs.gathering.own_conflicts.Given as goal

abbrev pub invariant-loop-id : goal.invariant-loop-id
invariant-loop-id l = l.ids.items ≡ map (λ i. i.now) l.yielded
