use Rattle.std.proofs.Common.{◌≡◌, map}
use Rattle.std.specs.List.{range_with_len}
use Rattle.sample_schedules.specs.Generator.{trip_in}
use Rattle.sample_schedules.proofs.planning.trips.Given as goal

-- the round trips so far
abbrev pub invariant-loop-place : goal.invariant-loop-place
invariant-loop-place l = l.trips.items ≡ map (trip_in l.sites) (range_with_len 0 l.place)
