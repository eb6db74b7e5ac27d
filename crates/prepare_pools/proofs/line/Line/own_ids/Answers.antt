use Rattle.std.proofs.Common.{◌≡◌, ◌∙◌, map, rules}
use Rattle.std.specs.Map.{values_of}
use Rattle.std.specs.Map.Iter.{deref}
use Rattle.std.proofs.lemmas.Map.Iter.{iter_end}
use Rattle.prepare_pools.proofs.Found.{ids_are}
use Rattle.prepare_pools.proofs.Waits.{site_read}
use Rattle.prepare_pools.proofs.line.Line.own_ids.Goals as goal

pub returns : goal.returns
returns c =
    let all : map deref c.loop-time.yielded ≡ values_of c.times.result.now.entries = search (rules, iter_end) in
    ids_are c.args.site _ _ c.loop-time.yielded _ c.loop-time.invariant all
    (c.times.ensures ∙ site_read _ _ _ _ c.args.site _ _ c.self.view_is c.self.invariant c.number.ensures.value c.number.ensures.small c.index.ensures)
