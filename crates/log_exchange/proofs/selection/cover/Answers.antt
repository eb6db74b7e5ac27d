use Rattle.std.proofs.Common.{◌∙◌, ap}
use Rattle.time_table.specs.Table.{time_at}
use Rattle.log_exchange.specs.Heads.{covered_to, head_of}
use Rattle.log_exchange.proofs.Filled.{told_more}
use Rattle.log_exchange.proofs.selection.cover.Goals as goal

pub loop-k-preserved : goal.loop-k-preserved
loop-k-preserved c =
    told_more (λ k. covered_to (time_at c.args.t.now c.args.own k) (head_of c.args.backlog.now c.args.heads.now k)) c.loop-k.k c.covered.result c.loop-k.told.items c.push.new.self.items
    c.loop-k.invariant c.in_ok-push.ensures.items
    (c.covered.ensures ∙ ap (λ n. covered_to n c.head_at.result) c.known.ensures ∙ ap (covered_to (time_at c.args.t.now c.args.own c.loop-k.k)) c.head_at.ensures)
