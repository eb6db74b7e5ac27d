-- What every commit keeps by its type, whatever the history.
use Rattle.std.specs.Prelude.{◌<◌, All}
use Rattle.helios_model.specs.Limits.{most_sites}
use Rattle.helios_model.specs.Texts.{IsKey}
use Rattle.helios_model.specs.Transactions.{IsTransaction}
use Rattle.helios_model.specs.declared.records.CommitEvent.{CommitEvent}

-- a site of a cluster, the limits of a transaction, and keys within theirs
pub record IsKept (e : CommitEvent) : Type 0 where
  pub site : e.prepare.id.site < most_sites
  pub limits : IsTransaction e.prepare.reads e.prepare.writes
  pub reads : All (λ r. IsKey r.key) e.prepare.reads
  pub writes : All (λ w. IsKey w.key) e.prepare.writes
