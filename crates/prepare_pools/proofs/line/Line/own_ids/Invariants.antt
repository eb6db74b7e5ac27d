use Rattle.std.proofs.Common.{◌≡◌, map}
use Rattle.prepare_pools.proofs.line.Line.own_ids.Given as goal

abbrev pub invariant-loop-time : goal.invariant-loop-time
invariant-loop-time l = l.ids.items ≡ map (λ t. record { site = l.site; time = t.now }) l.yielded
