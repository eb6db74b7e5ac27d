use Rattle.std.proofs.Common.{◌≡◌, [], replicate}
use Rattle.prepare_pools.proofs.line.Line.new.Given as goal

abbrev pub invariant-loop : goal.invariant-loop
invariant-loop l = l.sites.items ≡ replicate l.counter []
