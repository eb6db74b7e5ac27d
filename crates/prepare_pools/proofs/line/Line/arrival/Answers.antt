use Rattle.std.proofs.Common.{◌∙◌, ap, nat_eq}
use Rattle.prepare_pools.specs.Line.{arrival_of}
use Rattle.prepare_pools.proofs.Sites.{site_arrival}
use Rattle.prepare_pools.proofs.Waits.{site_read}
use Rattle.prepare_pools.proofs.line.Line.arrival.Goals as goal

pub returns : goal.returns
returns c =
    c.arrival.ensures ∙ (ap (λ u. arrival_of (λ t. nat_eq t u) c.index.result.now) c.half_micros.ensures ∙
    (ap (arrival_of (λ t. nat_eq t c.args.id.now.time)) (site_read _ _ _ _ _ _ _ c.self.view_is c.self.invariant c.number.ensures.value c.number.ensures.small c.index.ensures) ∙
    site_arrival c.args.self.now c.args.id.now))
