use Rattle.std.proofs.Common.{◌∙◌, ap}
use Rattle.std.specs.Map.{values_of}
use Rattle.log_exchange.specs.Kept.{with_needed}
use Rattle.log_exchange.specs.Runs.{Backlogged}
use Rattle.log_exchange.proofs.Fronts.{values_needed}
use Rattle.log_exchange.proofs.exchange.ExchangeLog.drop_known.Goals as goal

pub returns : goal.returns
returns c =
    let b : Backlogged = c.self.inside.backlog in
    ap (λ x. record { count = x.count; site = c.self.inside.site; records = values_of x.entries }) c.drop_known.ensures
    ∙ ap (λ rs. record { count = b.count; site = c.self.inside.site; records = rs }) (values_needed b.count c.args.t.now.times b.entries)
    ∙ ap (λ l. with_needed l c.args.t.now.times) c.self.view_is
