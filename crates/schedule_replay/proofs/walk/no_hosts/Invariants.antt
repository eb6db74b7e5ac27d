use Rattle.std.proofs.Common.{◌≡◌, None, replicate}
use Rattle.schedule_replay.proofs.walk.no_hosts.Given as goal

abbrev pub invariant-loop : goal.invariant-loop
invariant-loop l = l.hosts.items ≡ replicate l.counter None
