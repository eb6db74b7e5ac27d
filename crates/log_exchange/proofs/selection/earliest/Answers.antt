use Rattle.log_exchange.proofs.Ahead.{least_more, least_none}
use Rattle.log_exchange.proofs.selection.earliest.Goals as goal

pub loop-k-init : goal.loop-k-init
loop-k-init c = least_none c.args.backlog.now c.args.heads.now

pub loop-k-preserved : goal.loop-k-preserved
loop-k-preserved c =
    least_more c.args.backlog.now c.args.heads.now c.loop-k.k c.loop-k.best c.earlier-best.result c.head_at.result c.loop-k.invariant c.head_at.ensures c.earlier-best.ensures
