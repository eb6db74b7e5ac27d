-- What a refusal of a request and an Abort name: what stood in the way.
use Rattle.std.specs.Prelude.{◌≡◌, ◌≢◌, true, false, ℕ, ◌<◌, List, ◌∷◌, ◌++◌, Contains, take}
use Rattle.helios_model.specs.declared.ids.TxnId.{TxnId}
use Rattle.helios_model.specs.declared.ids.Version.{Version}
use Rattle.helios_model.specs.declared.ids.Version.TheVariants.{Initial, Of}
use Rattle.helios_model.specs.declared.transactions.ReadItem.{ReadItem}
use Rattle.helios_model.specs.declared.entries.Input.{Input}
use Rattle.helios_model.specs.declared.entries.Input.TheVariants.{Get, Status, Request, Pull, Push}
use Rattle.helios_model.specs.declared.records.Record.{Record}
use Rattle.helios_model.specs.declared.records.Record.TheVariants.{Prepare, Commit, Abort}
use Rattle.helios_model.specs.declared.entries.Reply.{Reply}
use Rattle.helios_model.specs.declared.entries.Reply.TheVariants.{Prepared, Committed, Overwritten, Conflict, Value, State, Sent, Taken, ClockSpent, PoolFull}
use Rattle.helios_model.specs.declared.records.CommitEvent.{CommitEvent}
use Rattle.helios_model.specs.Transactions.{Transaction, Asking, conflict, keys_conflict, touched_by, touched_by_ask, writes_key}
use Rattle.helios_model.specs.Log.{finished}
use Rattle.helios_model.specs.Plans.{PlanData, count_of}
use Rattle.helios_model.specs.World.{World, Told, node_of}

-- the version is that of a commit event that writes the key and whose Commit stands among these records
pub record IsCommittedIn (history : List CommitEvent) (records : List Record) (key : List ℕ) (id : TxnId) : Type 0 where
  pub event : CommitEvent
  pub stands : Contains history event
  pub named : event.prepare.id ≡ id
  pub writes : writes_key event.prepare key ≡ true
  pub logged : Contains records (Commit id event.time)

abbrev pub IsVersionIn : List CommitEvent → List Record → List ℕ → Version → Type 0
IsVersionIn history records key Initial = Unit {0}
IsVersionIn history records key (Of id) = IsCommittedIn history records key id

-- the request reads the key at another version, and the named one is committed
pub record IsOverwritten (history : List CommitEvent) (records : List Record) (ask : Asking) (key : List ℕ) (version : Version) : Type 0 where
  pub read : ReadItem
  pub asked : Contains ask.reads read
  pub at_key : read.key ≡ key
  pub other : read.version ≢ version
  pub committed : IsVersionIn history records key version

-- an unfinished transaction among these records touches a key of what is asked, and one of the two writes it
pub record IsConflict (records : List Record) (ask : Asking) (id : TxnId) : Type 0 where
  pub other : Transaction
  pub named : other.id ≡ id
  pub logged : Contains records (Prepare other)
  pub open_then : finished records id ≡ false
  pub conflicts : keys_conflict (touched_by_ask ask) (touched_by other) ≡ true

-- a refusal of a request names what stood in its way among the first records of the log
abbrev pub IsNamed : List CommitEvent → List Record → Asking → Reply → Type 0
IsNamed history records ask (Prepared id) = Unit {0}
IsNamed history records ask (Committed id) = Unit {0}
IsNamed history records ask (Overwritten key version) = IsOverwritten history records ask key version
IsNamed history records ask (Conflict id) = IsConflict records ask id
IsNamed history records ask (Value version value) = Unit {0}
IsNamed history records ask (State state) = Unit {0}
IsNamed history records ask (Sent m) = Unit {0}
IsNamed history records ask Taken = Unit {0}
IsNamed history records ask ClockSpent = Unit {0}
IsNamed history records ask PoolFull = Unit {0}

abbrev pub IsNamedTo : List CommitEvent → List Record → Input → Reply → Type 0
IsNamedTo history records (Get key) reply = Unit {0}
IsNamedTo history records (Status id) reply = Unit {0}
IsNamedTo history records (Request ask) reply = IsNamed history records ask reply
IsNamedTo history records (Pull to) reply = Unit {0}
IsNamedTo history records (Push m) reply = Unit {0}

-- a released reply names what stood in the way among the records that the site's log had just before the input
abbrev pub ToldIsNamed : PlanData → World → Told → Type 0
ToldIsNamed plan w told = IsNamedTo w.history (take told.log_length (node_of plan w told.site).log) told.input told.reply

-- an Abort's cause is of another site; its Prepare stands earlier in the log of the aborted id's site, and in the log of its own
-- site; and it conflicts with the Prepare of the aborted id
pub record IsCaused (plan : PlanData) (w : World) (id : TxnId) (time : ℕ) (cause : TxnId) : Type 0 where
  pub other_site : cause.site ≢ id.site
  pub by : Transaction
  pub by_id : by.id ≡ cause
  pub ended : Transaction
  pub ended_id : ended.id ≡ id
  pub taken : Contains (node_of plan w id.site).log (Prepare ended)
  pub conflicts : conflict ended by ≡ true
  pub before : List Record
  pub after : List Record
  pub stands : (node_of plan w id.site).log ≡ before ++ Abort id time cause ∷ after
  pub earlier : Contains before (Prepare by)
  pub at_home : Contains (node_of plan w cause.site).log (Prepare by)

-- each Abort in any log has its cause
abbrev pub AbortsAreCaused : PlanData → World → Type 0
AbortsAreCaused plan w = (k : ℕ) → k < count_of plan → (id : TxnId) (time : ℕ) (cause : TxnId)
    → Contains (node_of plan w k).log (Abort id time cause) → IsCaused plan w id time cause
