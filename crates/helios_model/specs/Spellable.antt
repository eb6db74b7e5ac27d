-- Which data has a spelling: what a journal, a message, a frame or an answer can hold.
use Rattle.std.specs.Prelude.{◌≡◌, ◌≢◌, ℕ, ◌*◌, ◌^◌, ◌<◌, ◌≤◌, List, length, slice_index, All, AllPairs, IsTrue}
use Rattle.helios_model.specs.declared.ids.TxnId.{TxnId}
use Rattle.helios_model.specs.declared.ids.Version.{Version}
use Rattle.helios_model.specs.declared.ids.Version.TheVariants.{Initial, Of}
use Rattle.helios_model.specs.declared.transactions.ReadItem.{ReadItem}
use Rattle.helios_model.specs.declared.transactions.PutItem.{PutItem}
use Rattle.helios_model.specs.declared.transactions.WriteItem.{WriteItem}
use Rattle.helios_model.specs.declared.records.Record.{Record}
use Rattle.helios_model.specs.declared.records.Record.TheVariants.{Prepare, Commit, Abort}
use Rattle.helios_model.specs.declared.entries.Input.{Input}
use Rattle.helios_model.specs.declared.entries.Input.TheVariants.{Get, Status, Request, Pull, Push}
use Rattle.helios_model.specs.declared.entries.Entry.{Entry}
use Rattle.helios_model.specs.declared.entries.State.{State}
use Rattle.helios_model.specs.declared.entries.State.TheVariants.{Pending, Committed as StateCommitted, Aborted, Unknown}
use Rattle.helios_model.specs.declared.messages.Message.{Message}
use Rattle.helios_model.specs.declared.entries.Reply.{Reply}
use Rattle.helios_model.specs.declared.entries.Reply.TheVariants.{Prepared, Committed, Overwritten, Conflict, Value, State as StateReply, Sent, Taken, ClockSpent, PoolFull}
use Rattle.helios_model.specs.Limits.{most_sites, most_items, most_records, last_time}
use Rattle.helios_model.specs.Texts.{IsKey, IsValue, all_differ}
use Rattle.helios_model.specs.Transactions.{Transaction, Asking}
use Rattle.helios_model.specs.Log.{origin, own_time}

-- an id of one of so many sites, with a time from 1 to the last
pub record IsSpellableId (count : ℕ) (id : TxnId) : Type 0 where
  pub here : id.site < count
  pub some : 1 ≤ id.time
  pub last : id.time ≤ last_time

-- a version may name any site that a cluster can have
abbrev pub IsSpellableVersion : Version → Type 0
IsSpellableVersion Initial = Unit {0}
IsSpellableVersion (Of id) = IsSpellableId most_sites id

-- at most sixteen reads of distinct keys
pub record AreSpellableReads (reads : List ReadItem) : Type 0 where
  pub few : length reads ≤ most_items
  pub differ : IsTrue (all_differ (λ r. r.key) reads)
  pub keys : All (λ r. IsKey r.key) reads
  pub versions : All (λ r. IsSpellableVersion r.version) reads

-- at most sixteen values for distinct keys
pub record AreSpellablePuts (puts : List PutItem) : Type 0 where
  pub few : length puts ≤ most_items
  pub differ : IsTrue (all_differ (λ p. p.key) puts)
  pub keys : All (λ p. IsKey p.key) puts
  pub values : All (λ p. IsValue p.value) puts

-- the same, each over the version that it overwrites
pub record AreSpellableWrites (writes : List WriteItem) : Type 0 where
  pub few : length writes ≤ most_items
  pub differ : IsTrue (all_differ (λ w. w.key) writes)
  pub keys : All (λ w. IsKey w.key) writes
  pub values : All (λ w. IsValue w.value) writes
  pub versions : All (λ w. IsSpellableVersion w.over) writes

-- what a client may ask for
pub record IsSpellableAsk (ask : Asking) : Type 0 where
  pub reads : AreSpellableReads ask.reads
  pub puts : AreSpellablePuts ask.puts

-- a transaction of one of so many sites
pub record IsSpellablePrepare (count : ℕ) (p : Transaction) : Type 0 where
  pub named : IsSpellableId count p.id
  pub reads : AreSpellableReads p.reads
  pub writes : AreSpellableWrites p.writes

-- the end of a transaction, at a time above that of its id
pub record IsSpellableEnd (count : ℕ) (id : TxnId) (time : ℕ) : Type 0 where
  pub named : IsSpellableId count id
  pub later : id.time < time
  pub last : time ≤ last_time

-- a record of a log of so many sites
abbrev pub IsSpellableRecord : ℕ → Record → Type 0
IsSpellableRecord count (Prepare p) = IsSpellablePrepare count p
IsSpellableRecord count (Commit id time) = IsSpellableEnd count id time
IsSpellableRecord count (Abort id time cause) = IsSpellableEnd count id time × IsSpellableId count cause

-- the own times of each origin rise strictly
abbrev pub OwnTimesRiseByOrigin : List Record → Type 0
OwnTimesRiseByOrigin records = AllPairs (λ a b. origin a ≡ origin b → own_time a < own_time b) records

-- a message between two of its sites: the table and the cover are of as many sites, and of each origin the records come in
-- the order of their own times, none above the cover
pub record IsSpellableMessage (m : Message) : Type 0 where
  pub some : 2 ≤ m.count
  pub few : m.count ≤ most_sites
  pub from : m.from < m.count
  pub to : m.to < m.count
  pub other : m.to ≢ m.from
  pub square : length m.table ≡ m.count * m.count
  pub table : All (λ time. time ≤ last_time) m.table
  pub one_row : length m.cover ≡ m.count
  pub cover : All (λ time. time ≤ last_time) m.cover
  pub few_records : length m.records ≤ most_records
  pub records : All (IsSpellableRecord m.count) m.records
  pub rise : OwnTimesRiseByOrigin m.records
  pub covered : All (λ r. own_time r ≤ slice_index m.cover (origin r)) m.records

-- what a message of so many sites is
pub record IsMessageOf (count : ℕ) (m : Message) : Type 0 where
  pub spellable : IsSpellableMessage m
  pub counted : m.count ≡ count

-- only what is journaled has a spelling
abbrev pub IsSpellableInput : ℕ → Input → Type 0
IsSpellableInput count (Get key) = ⊥
IsSpellableInput count (Status id) = ⊥
IsSpellableInput count (Request ask) = IsSpellableAsk ask
IsSpellableInput count (Pull to) = to < count
IsSpellableInput count (Push m) = IsMessageOf count m

-- an input of so many sites, with any reading that a clock can show
pub record IsSpellableEntry (count : ℕ) (e : Entry) : Type 0 where
  pub reading : e.reading < 2 ^ 64
  pub input : IsSpellableInput count e.input

abbrev pub IsSpellableState : State → Type 0
IsSpellableState Pending = Unit {0}
IsSpellableState StateCommitted = Unit {0}
IsSpellableState (Aborted cause) = IsSpellableId most_sites cause
IsSpellableState Unknown = Unit {0}

-- an answer may name any site that a cluster can have
abbrev pub IsSpellableReply : Reply → Type 0
IsSpellableReply (Prepared id) = IsSpellableId most_sites id
IsSpellableReply (Committed id) = IsSpellableId most_sites id
IsSpellableReply (Overwritten key current) = IsKey key × IsSpellableVersion current
IsSpellableReply (Conflict id) = IsSpellableId most_sites id
IsSpellableReply (Value version value) = IsSpellableVersion version × IsValue value
IsSpellableReply (StateReply state) = IsSpellableState state
IsSpellableReply (Sent m) = IsSpellableMessage m
IsSpellableReply Taken = Unit {0}
IsSpellableReply ClockSpent = Unit {0}
IsSpellableReply PoolFull = Unit {0}
