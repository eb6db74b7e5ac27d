use Rattle.std.proofs.Common.{◌≡◌, ◌+◌, List, ◌∷◌, [], ◌++◌, map, sym, ap, ◌∙◌, arith}
use Rattle.std.specs.List.{range_with_len}
use Rattle.std.proofs.lemmas.List.FromFn.{map-range_with_len_more}
use Rattle.sample_schedules.specs.Generator.{trip_in}
use Rattle.sample_schedules.proofs.planning.trips.Goals as goal

pub loop-place-preserved : goal.loop-place-preserved
loop-place-preserved c =
    let more = map-range_with_len_more (trip_in c.args.sites) 0 c.loop-place.place c.loop-place.place (omega arith) in
    cc (more, c.loop-place.invariant, c.in_ok-push.ensures.items, c.trip_in.ensures)
