use Rattle.std.proofs.Common.{◌≡◌, ◌∙◌, ap, map, rules}
use Rattle.std.specs.Map.Iter.{deref}
use Rattle.std.proofs.lemmas.Map.Iter.{iter_end}
use Rattle.prepare_pools.proofs.Gathered.{all_gathered}
use Rattle.prepare_pools.proofs.gathering.own_conflicts.Goals as goal

pub returns : goal.returns
returns c =
    let all : map deref c.loop-id.yielded ≡ c.values-id-items.result = search (rules, iter_end) in
    all_gathered c.args.p.now c.args.site _ _ c.args.line.now _ _ _ _ c.loop-id.yielded _ c.requires.line (ap (map (λ w. w.key)) (c.items.ensures ∙ c.writes.ensures.value))
    (ap (map (λ r. r.key)) (c.items-2.ensures ∙ c.reads.ensures.value)) c.new-found.ensures.empty c.in_ok-gather_each.ensures c.in_ok-gather_each-2.ensures
    c.values-id-items.ensures.ordered c.loop-id.invariant all c.values-id-items.ensures.rest
