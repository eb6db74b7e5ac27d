use Rattle.std.proofs.Common.{◌∙◌, ◌||◌, ap, sym}
use Rattle.std.specs.Option.{option_map}
use Rattle.prepare_pools.proofs.Firsts.{find_here, find_on}
use Rattle.prepare_pools.proofs.conflicts.first_id.Goals as goal

pub returns-then-counts : goal.returns-then-counts
returns-then-counts c =
    ap (option_map (λ t. t.id)) (find_here (λ t. c.args.any || t.write) c.args.touches.now c.loop-touch.touch-index c.touch-item.result c.loop-touch-test.true c.touch-item.is c.loop-touch.invariant
    (sym c.counts.ensures ∙ c.if-counts.true))

pub loop-touch-preserved : goal.loop-touch-preserved
loop-touch-preserved c =
    find_on (λ t. c.args.any || t.write) c.args.touches.now c.loop-touch.touch-index c.touch-item.result c.loop-touch-test.true c.touch-item.is c.loop-touch.invariant
    (sym c.counts.ensures ∙ c.if-counts.false)
