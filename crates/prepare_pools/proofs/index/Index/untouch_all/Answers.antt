use Rattle.std.proofs.Common.{◌∙◌, ap, map}
use Rattle.prepare_pools.proofs.Touched.{out_of_parts}
use Rattle.prepare_pools.proofs.index.Index.untouch_all.Goals as goal

pub returns : goal.returns
returns c =
    out_of_parts c.args.p.now _ _ _ _ _ _ _ c.id.ensures c.id-2.ensures (ap (map (λ w. w.key)) (c.items.ensures ∙ c.writes.ensures.value))
    (ap (map (λ r. r.key)) (c.items-2.ensures ∙ c.reads.ensures.value)) c.untouch_each.ensures c.untouch_each-2.ensures
