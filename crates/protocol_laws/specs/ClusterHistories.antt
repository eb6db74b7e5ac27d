-- How the history of a cluster and the logs of its sites tell the same.
use Rattle.std.specs.Prelude.{◌≡◌, true, false, ℕ, ◌<◌, filter, All, AllPairs}
use Rattle.helios_model.specs.declared.records.Record.{Record}
use Rattle.helios_model.specs.declared.records.Record.TheVariants.{Commit}
use Rattle.helios_model.specs.declared.records.CommitEvent.{CommitEvent}
use Rattle.helios_model.specs.Ids.{same_id}
use Rattle.helios_model.specs.Transactions.{Transaction, conflict}
use Rattle.helios_model.specs.Plans.{PlanData, count_of}
use Rattle.helios_model.specs.Log.{commits}
use Rattle.helios_model.specs.NamedAbort.{IsVersionIn}
use Rattle.helios_model.specs.World.{is_own_commit}
use Rattle.helios_model.specs.Sequences.{Before}
use Rattle.protocol_laws.specs.Clusters.{Cluster}

-- the events of each site are, in order, the own Commits of its log; all are of the plan's sites, and no two have one id
pub record IsHistory (plan : PlanData) (w : Cluster) : Type 0 where
  pub own : (k : ℕ) → filter (is_own_commit k) w.history ≡ filter (is_own_commit k) (commits (w.log k))
  pub sites : All (λ e. e.prepare.id.site < count_of plan) w.history
  pub distinct : AllPairs (λ a b. same_id a.prepare.id b.prepare.id ≡ false) w.history

-- each version that a transaction names is Initial, or that of an event which writes the key and whose Commit stands in the
-- log of the transaction's site
pub record NamesEvents (w : Cluster) (p : Transaction) : Type 0 where
  pub reads : All (λ r. IsVersionIn w.history (w.log p.id.site) r.key r.version) p.reads
  pub writes : All (λ x. IsVersionIn w.history (w.log p.id.site) x.key x.over) p.writes

abbrev pub commit_of : CommitEvent → Record
commit_of e = Commit e.prepare.id e.time

-- of two events that conflict, the Commit of the earlier one stands before that of the later one in the log of the later one's site
abbrev pub IsOrdered : Cluster → Type 0
IsOrdered w = AllPairs (λ e f. conflict e.prepare f.prepare ≡ true → Before (commit_of e) (commit_of f) (w.log f.prepare.id.site)) w.history
