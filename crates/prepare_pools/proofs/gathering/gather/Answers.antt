use Rattle.prepare_pools.proofs.Gathered.{touches_more}
use Rattle.prepare_pools.proofs.gathering.gather.Goals as goal

pub loop-touch-preserved : goal.loop-touch-preserved
loop-touch-preserved c = λ test found.
    touches_more c.args.line.now c.loop-touch.found.entries c.gather_touch.new.found.entries c.args.site c.args.any c.args.touches.now c.loop-touch.touch-index c.touch-item.result
    c.loop-touch-test.true c.touch-item.is test (c.in_ok-gather_touch.ensures _ (c.loop-touch.invariant test found))
