-- The laws of many sites, in each world that steps reach.
use Rattle.std.specs.Prelude.{◌≡◌, ◌≢◌, true, false, ℕ, ◌<◌, List, ◌∷◌, ◌++◌, All, Contains}
use Rattle.helios_model.specs.declared.ids.TxnId.{TxnId}
use Rattle.helios_model.specs.declared.messages.Message.{Message}
use Rattle.helios_model.specs.declared.records.Record.{Record}
use Rattle.helios_model.specs.declared.records.Record.TheVariants.{Prepare, Commit, Abort}
use Rattle.helios_model.specs.declared.records.CommitEvent.{CommitEvent}
use Rattle.helios_model.specs.Transactions.{Transaction}
use Rattle.helios_model.specs.Plans.{PlanData, count_of}
use Rattle.helios_model.specs.Log.{ends}
use Rattle.helios_model.specs.Exchange.{is_passed, is_unfinished, take_all}
use Rattle.helios_model.specs.Node.{known}
use Rattle.helios_model.specs.Messages.{intake_of}
use Rattle.helios_model.specs.World.{World, node_of}
use Rattle.helios_model.specs.Knowledge.{IsHonest}
use Rattle.helios_model.specs.ConflictOrder.{IsOrdered}
use Rattle.helios_model.specs.NamedAbort.{AbortsAreCaused, IsVersionIn}
use Rattle.helios_model.specs.Sequences.{Before}
use Rattle.protocol_laws.specs.Reached.{InEachWorld}

-- what tables of times and messages tell is so
abbrev pub EachWorldIsHonest : Type 0
EachWorldIsHonest = InEachWorld IsHonest

-- of two transactions that conflict the earlier one ends first, and Commits come behind all that the plan's offsets let stand before them
abbrev pub EachWorldIsOrdered : Type 0
EachWorldIsOrdered = InEachWorld IsOrdered

abbrev pub EachAbortIsCaused : Type 0
EachAbortIsCaused = InEachWorld AbortsAreCaused

-- as a site takes the records of a message that was sent to it, each Commit or Abort that it does not pass over as its own or as
-- known finds the Prepare of its id unfinished
abbrev pub SentEndsAreTaken : PlanData → World → Type 0
SentEndsAreTaken plan w = (m : Message) → Contains w.sent m → (done rest : List Record) (r : Record) (id : TxnId) → m.records ≡ done ++ r ∷ rest → ends id r ≡ true
    → is_passed m.to (known plan (node_of plan w m.to) m.to) r ≡ false
    → is_unfinished (take_all m.to (known plan (node_of plan w m.to) m.to) (intake_of plan (node_of plan w m.to)) done).log id ≡ true

abbrev pub EachSentEndIsTaken : Type 0
EachSentEndIsTaken = InEachWorld SentEndsAreTaken

-- a Commit in a log is that of an event of the history, whose Prepare stands before it
pub record IsOfEvent (history : List CommitEvent) (log : List Record) (id : TxnId) (time : ℕ) : Type 0 where
  pub event : CommitEvent
  pub stands : Contains history event
  pub named : event.prepare.id ≡ id
  pub timed : event.time ≡ time
  pub prepared : Before (Prepare event.prepare) (Commit id time) log

-- each version that a transaction names is Initial, or that of an event which writes the key and whose Commit stands in the
-- log of the transaction's site
pub record NamesCommitted (plan : PlanData) (w : World) (p : Transaction) : Type 0 where
  pub reads : All (λ r. IsVersionIn w.history (node_of plan w p.id.site).log r.key r.version) p.reads
  pub writes : All (λ x. IsVersionIn w.history (node_of plan w p.id.site).log x.key x.over) p.writes

-- the history and the Commits of all logs are the same transactions: none of them is aborted anywhere, and each version that a
-- Prepare in a log or in a message names is committed
pub record CommitsAreEvents (plan : PlanData) (w : World) : Type 0 where
  pub home : (e : CommitEvent) → Contains w.history e → Before (Prepare e.prepare) (Commit e.prepare.id e.time) (node_of plan w e.prepare.id.site).log
  pub commits : (k : ℕ) → k < count_of plan → (id : TxnId) (time : ℕ) → Contains (node_of plan w k).log (Commit id time)
      → IsOfEvent w.history (node_of plan w k).log id time
  pub never_aborted : (k : ℕ) → k < count_of plan → (id : TxnId) (time : ℕ) (cause : TxnId) (e : CommitEvent)
      → Contains (node_of plan w k).log (Abort id time cause) → Contains w.history e → e.prepare.id ≢ id
  pub named : (k : ℕ) → k < count_of plan → (p : Transaction) → Contains (node_of plan w k).log (Prepare p) → NamesCommitted plan w p
  pub sent : (m : Message) (p : Transaction) → Contains w.sent m → Contains m.records (Prepare p) → NamesCommitted plan w p

abbrev pub EachCommitIsEvent : Type 0
EachCommitIsEvent = InEachWorld CommitsAreEvents
