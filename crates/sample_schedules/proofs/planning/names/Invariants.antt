use Rattle.std.proofs.Common.{◌≡◌, map}
use Rattle.std.specs.List.{range_with_len}
use Rattle.sample_schedules.specs.Generator.{site_name}
use Rattle.sample_schedules.proofs.planning.names.Given as goal

-- the names so far
abbrev pub invariant-loop-i : goal.invariant-loop-i
invariant-loop-i l = l.names.items ≡ map site_name (range_with_len 0 l.i-counter)
