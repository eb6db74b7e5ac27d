-- What holds in each cluster that small steps reach.
use Rattle.std.specs.Prelude.{◌≡◌, ◌≢◌, true, false, ℕ, ◌<◌, List, ◌∷◌, ◌++◌, AllPairs, Contains}
use Rattle.helios_model.specs.declared.ids.TxnId.{TxnId}
use Rattle.helios_model.specs.declared.records.Record.{Record}
use Rattle.helios_model.specs.declared.records.Record.TheVariants.{Prepare, Commit, Abort}
use Rattle.helios_model.specs.declared.records.CommitEvent.{CommitEvent}
use Rattle.helios_model.specs.Ids.{same_id}
use Rattle.helios_model.specs.Transactions.{Transaction, conflict}
use Rattle.helios_model.specs.Plans.{PlanData, IsAccepted, count_of}
use Rattle.helios_model.specs.Log.{ends, finished, prepares}
use Rattle.helios_model.specs.Serial.{IsSerial}
use Rattle.helios_model.specs.Sequences.{Mem, Before}
use Rattle.protocol_laws.specs.Shapes.{EachBehind}
use Rattle.protocol_laws.specs.Order.{IsClearBehind}
use Rattle.helios_model.specs.ConflictOrder.{aborted, EndsFirst}
use Rattle.protocol_laws.specs.Logs.{EndsPending, FollowsBefore}
use Rattle.protocol_laws.specs.Clusters.{Letter, Cluster, Honest}
use Rattle.protocol_laws.specs.SmallSteps.{Commits, IsReached}
use Rattle.protocol_laws.specs.LogLaws.{LogLaws}
use Rattle.protocol_laws.specs.Reach.{Reach}
use Rattle.protocol_laws.specs.ClusterHistories.{IsHistory, NamesEvents, commit_of, IsOrdered}
use Rattle.protocol_laws.specs.ClusterAborts.{AbortsAreNamed}

abbrev pub InEachCluster : (PlanData → Cluster → Type 0) → Type 0
InEachCluster F = (plan : PlanData) (w : Cluster) → IsReached plan w → F plan w

-- all that small steps keep: what sites know is honest, the laws of each log, what Commits waited for and have seen, the
-- history, and, in an accepted plan, its order and that it is serial
pub record IsKept (plan : PlanData) (w : Cluster) : Type 0 where
  pub honest : Honest w
  pub laws : (k : ℕ) → LogLaws k (w.log k)
  pub reach : Reach plan w
  pub history : IsHistory plan w
  pub ordered : IsAccepted plan → IsOrdered w
  pub serial : IsAccepted plan → IsSerial w.history

abbrev pub EachClusterIsKept : Type 0
EachClusterIsKept = InEachCluster IsKept

-- no two Prepares of a log have one id, each Commit and Abort ends what is pending, and no two of them end one id
pub record EndsAreSound (log : List Record) : Type 0 where
  pub given_once : AllPairs (λ p q. same_id p.id q.id ≡ false) (prepares log)
  pub behind : EachBehind EndsPending log
  pub once : AllPairs (λ a b. (id : TxnId) → ends id a ≡ true → ends id b ≡ false) log

abbrev pub EachEndIsSound : Type 0
EachEndIsSound = InEachCluster (λ plan w. (k : ℕ) → EndsAreSound (w.log k))

-- Prepares of one id in any two logs are the same
abbrev pub EachIdHasOnePrepare : Type 0
EachIdHasOnePrepare = InEachCluster (λ plan w. (i j : ℕ) (p q : Transaction) → Mem (Prepare p) (w.log i) → Mem (Prepare q) (w.log j) → p.id ≡ q.id → p ≡ q)

-- no Prepare behind an own unfinished one conflicts with it; and of two that conflict, of which the later one is own, or
-- the earlier one is own and never aborted, the earlier one is ended before the later one is taken
pub record ConflictsAreApart (site : ℕ) (log : List Record) : Type 0 where
  pub clear : (p : Transaction) → p.id.site ≡ site → finished log p.id ≡ false → IsClearBehind log p
  pub own_later : (p q : Transaction) → q.id.site ≡ site → EndsFirst log p q
  pub own_earlier : (p q : Transaction) → p.id.site ≡ site → aborted log p.id ≡ false → EndsFirst log p q

abbrev pub EachConflictIsApart : Type 0
EachConflictIsApart = InEachCluster (λ plan w. (k : ℕ) → ConflictsAreApart k (w.log k))

-- where an own transaction is taken, each version that it reads or overwrites is the current one
abbrev pub EachVersionIsCurrent : Type 0
EachVersionIsCurrent = InEachCluster (λ plan w. (k : ℕ) → EachBehind (FollowsBefore k) (w.log k))

-- each own Commit waited, and stands behind each record of another site that is within the offset of its id's time
abbrev pub EachCommitHasSeen : Type 0
EachCommitHasSeen = InEachCluster Reach

-- a Commit in a log is that of an event of the history, whose Prepare stands before it
pub record IsCommitOfEvent (w : Cluster) (i : ℕ) (id : TxnId) (time : ℕ) : Type 0 where
  pub event : CommitEvent
  pub stands : Contains w.history event
  pub named : event.prepare.id ≡ id
  pub timed : event.time ≡ time
  pub prepared : Before (Prepare event.prepare) (Commit id time) (w.log i)

-- the history and the Commits of all logs are the same transactions: none of them is aborted anywhere, and each version that a
-- Prepare in a log or in a message names is that of an event
pub record EventsAreCommits (w : Cluster) : Type 0 where
  pub home : (e : CommitEvent) → Contains w.history e → Before (Prepare e.prepare) (commit_of e) (w.log e.prepare.id.site)
  pub commit : (i : ℕ) (id : TxnId) (time : ℕ) → Mem (Commit id time) (w.log i) → IsCommitOfEvent w i id time
  pub never_aborted : (i : ℕ) (id : TxnId) (time : ℕ) (cause : TxnId) (e : CommitEvent) → Mem (Abort id time cause) (w.log i) → Contains w.history e
      → e.prepare.id ≢ id
  pub named : (i : ℕ) (p : Transaction) → Mem (Prepare p) (w.log i) → NamesEvents w p
  pub sent : (m : Letter) (p : Transaction) → Mem m w.sent → Mem (Prepare p) m.records → NamesEvents w p

abbrev pub EachHistoryIsHonest : Type 0
EachHistoryIsHonest = InEachCluster (λ plan w. IsHistory plan w × EventsAreCommits w)

-- as a transaction commits in an accepted plan, each event that conflicts with it had its Commit in this site's log before the
-- transaction was taken
abbrev pub ConflictsCameBefore : PlanData → Cluster → Type 0
ConflictsCameBefore plan w = (v : Cluster) (s : ℕ) (p : Transaction) (e : CommitEvent) → s < count_of plan → Commits plan w v s p → Contains w.history e
    → conflict e.prepare p ≡ true → (before after : List Record) → w.log s ≡ before ++ Prepare p ∷ after → Contains before (commit_of e)

abbrev pub EachConflictCameBefore : Type 0
EachConflictCameBefore = InEachCluster (λ plan w. IsAccepted plan → ConflictsCameBefore plan w)

-- the history of an accepted plan is a serial one, and conflicting Commits stand in its order
abbrev pub EachHistoryIsSerial : Type 0
EachHistoryIsSerial = InEachCluster (λ plan w. IsAccepted plan → IsSerial w.history × IsOrdered w)

abbrev pub EachAbortIsNamed : Type 0
EachAbortIsNamed = InEachCluster (λ plan w. AbortsAreNamed w)
