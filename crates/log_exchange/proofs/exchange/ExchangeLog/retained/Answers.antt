use Rattle.std.proofs.Common.{◌<◌, subst}
use Rattle.std.specs.Map.{values_of}
use Rattle.helios_model.specs.Log.{origin}
use Rattle.log_exchange.specs.Kept.{AreOf}
use Rattle.log_exchange.proofs.Lines.{all_places}
use Rattle.log_exchange.proofs.Filled.{sites_of}
use Rattle.log_exchange.proofs.exchange.ExchangeLog.retained.Goals as goal

pub returns-clause-origins : goal.returns-clause-origins
returns-clause-origins c =
    subst (λ l. AreOf l.count l.records) c.self.view_is
    (all_places (λ r. origin r < c.self.inside.backlog.count) (values_of c.self.inside.backlog.entries) (sites_of c.self.inside.backlog.count c.self.inside.backlog.entries c.len.ensures.sites))
