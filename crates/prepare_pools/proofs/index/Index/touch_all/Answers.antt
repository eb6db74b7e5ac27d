use Rattle.std.proofs.Common.{◌∙◌, ap, map}
use Rattle.prepare_pools.proofs.Touched.{all_touched, out_again}
use Rattle.prepare_pools.proofs.index.Index.touch_all.Goals as goal

pub returns-in-Err-touch_each-clause-as_before : goal.returns-in-Err-touch_each-clause-as_before
returns-in-Err-touch_each-clause-as_before c =
    out_again c.args.p.now _ _ _ _ _ _ (ap (map (λ w. w.key)) (c.items.ensures ∙ c.writes.ensures.value)) (ap (map (λ r. r.key)) (c.items-2.ensures ∙ c.reads.ensures.value))
    c.requires c.in_default.ensures.pushed c.in-Err-touch_each.ensures.keeps c.untouch_all-in-Err-touch_each.ensures

pub returns-clause-pushed : goal.returns-clause-pushed
returns-clause-pushed c =
    all_touched c.args.p.now _ _ _ _ _ (ap (map (λ w. w.key)) (c.items.ensures ∙ c.writes.ensures.value)) (ap (map (λ r. r.key)) (c.items-2.ensures ∙ c.reads.ensures.value))
    c.writes.ensures.limits.writes_differ c.writes.ensures.limits.reads_differ c.in_default.ensures.pushed c.in_default-touch_each.ensures.pushed
