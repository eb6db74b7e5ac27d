use Rattle.std.proofs.Common.{◌∙◌, ap, length}
use Rattle.prepare_pools.proofs.Sites.{site_count}
use Rattle.prepare_pools.proofs.Waits.{site_read}
use Rattle.prepare_pools.proofs.line.Line.own_open.Goals as goal

pub returns : goal.returns
returns c =
    c.len.ensures.len ∙ (ap length (c.times.ensures ∙ site_read _ _ _ _ _ _ _ c.self.view_is c.self.invariant c.number.ensures.value c.number.ensures.small c.index.ensures) ∙
    site_count c.args.site c.args.self.now)
