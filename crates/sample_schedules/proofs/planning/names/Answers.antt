use Rattle.std.proofs.Common.{◌≡◌, ◌+◌, List, ◌∷◌, [], ◌++◌, map, sym, ap, ◌∙◌, arith}
use Rattle.std.specs.List.{range_with_len}
use Rattle.std.proofs.lemmas.List.FromFn.{map-range_with_len_more}
use Rattle.sample_schedules.specs.Generator.{site_name}
use Rattle.sample_schedules.proofs.planning.names.Goals as goal

pub loop-i-preserved : goal.loop-i-preserved
loop-i-preserved c =
    let more = map-range_with_len_more site_name 0 c.loop-i.i-counter c.loop-i.i-counter (omega arith) in
    cc (more, c.loop-i.invariant, c.in_ok-push.ensures.items, c.new.ensures, c.in_ok-format.ensures.ok)
