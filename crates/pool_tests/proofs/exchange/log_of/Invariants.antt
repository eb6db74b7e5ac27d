use Rattle.std.proofs.Common.{◌≡◌}
use Rattle.pool_tests.proofs.exchange.log_of.Given as goal

abbrev pub invariant-loop-time : goal.invariant-loop-time
invariant-loop-time l = l.log.count ≡ 2
