-- What a ledger keeps of a site's log.
use Rattle.std.specs.Prelude.{◌≡◌, ℕ, ◌<◌, ◌≤◌, ◌^◌, ◌+◌, List, [], ◌++◌, Bool, Option, Some, true, All, AllPairs, find, is_some, length}
use Rattle.std.specs.List.{list_any}
use Rattle.std.specs.Option.{option_map}
use Rattle.std.specs.Ordering.{nat_cmp}
use Rattle.std.specs.Map.{lookup}
use Rattle.std.specs.BTreeMap.{is_at}
use Rattle.helios_model.specs.declared.entries.State.{State}
use Rattle.helios_model.specs.declared.ids.TxnId.{TxnId}
use Rattle.helios_model.specs.declared.records.CommitEvent.{CommitEvent}
use Rattle.helios_model.specs.declared.records.Record.{Record}
use Rattle.helios_model.specs.Ids.{same_id}
use Rattle.helios_model.specs.Transactions.{Transaction}
use Rattle.helios_model.specs.Log.{current, current_value, ends, finished, prepare_of, prepares, unfinished}
use Rattle.helios_model.specs.Exchange.{Intake}
use Rattle.node_limits.specs.Limits.{IsAfter, MayTake}
use Rattle.helios_model.specs.Node.{ending_of}
use Rattle.helios_model.specs.World.{own_commits}
use Rattle.log_exchange.specs.Kept.{LogData}
use Rattle.version_store.specs.declared.held.Held.{Held}
use Rattle.version_store.specs.Store.{value_in, version_in}

-- a ledger as contracts see it: the site, of how many, and what it keeps of the site's log, which is not there as a whole
pub record LedgerData : Type 0 where
  pub count : ℕ
  pub site : ℕ
  -- the unfinished transactions
  pub pools : List Transaction
  -- the version and the value of each key
  pub store : List (List ℕ × Held)
  -- how own transactions ended, by their times
  pub ended : List (ℕ × State)
  -- the records that some site may still need
  pub kept : List Record
  -- what the log gained since the step began, and the own Commits among it
  pub added : List Record
  pub commits : List CommitEvent

-- what a ledger's parts are together
abbrev pub ledger_data : LogData → List Transaction → List (List ℕ × Held) → List (ℕ × State) → List Record → List CommitEvent → LedgerData
ledger_data exchange pools store ended added commits = record {
  count = exchange.count;
  site = exchange.site;
  pools = pools;
  store = store;
  ended = ended;
  kept = exchange.records;
  added = added;
  commits = commits;
}

-- a site's log as a step began, and what was kept of it
pub record Base : Type 0 where
  pub log : List Record
  pub kept : List Record

abbrev pub empty_base : Base
empty_base = record { log = []; kept = [] }

-- the log to which a ledger came from what it was as the step began
abbrev pub log_in : Base → LedgerData → List Record
log_in b l = b.log ++ l.added

-- a log that takes records in, and its site's clock
abbrev pub intake_in : Base → LedgerData → ℕ → Intake
intake_in b l clock = record { log = log_in b l; clock = clock }

-- the transactions of each site come in the order of their times
abbrev pub TimesRise : List Transaction → Type 0
TimesRise transactions = AllPairs (λ p q. p.id.site ≡ q.id.site → p.id.time < q.id.time) transactions

-- what a look-up in the pools or the store gives is what the log says; each Commit and Abort has its Prepare before it
pub record IsKept (log : List Record) (pools : List Transaction) (store : List (List ℕ × Held)) : Type 0 where
  pub waiting : pools ≡ unfinished log
  pub rise : TimesRise (prepares log)
  pub backed : (id : TxnId) → finished log id ≡ true → is_some (prepare_of log id) ≡ true
  pub versions : (key : List ℕ) → version_in store key ≡ current log key
  pub values : (key : List ℕ) → value_in store key ≡ current_value log key

-- the log has a Prepare of each
abbrev pub AreKnown : List Record → List TxnId → Type 0
AreKnown log ids = All (λ id. is_some (prepare_of log id) ≡ true) ids

-- how the own transaction of a time ended
abbrev pub end_in : List (ℕ × State) → ℕ → Option State
end_in ended time = lookup (is_at (nat_cmp time)) ended

abbrev pub end_of : Record → State
end_of r = ending_of (Some r)

-- the ends of the own transactions, by their times, are those of the log
abbrev pub AreEnds : ℕ → List Record → List (ℕ × State) → Type 0
AreEnds site log ended = (time : ℕ) → end_in ended time ≡ option_map end_of (find (ends (record { site = site; time = time })) log)

-- the ledger stands for the log to which it came from what it was as the step began
pub record IsLedgerOf (b : Base) (l : LedgerData) : Type 0 where
  pub lookups : IsKept (log_in b l) l.pools l.store
  pub ends : AreEnds l.site (log_in b l) l.ended
  pub kept : l.kept ≡ b.kept ++ l.added
  pub commits : l.commits ≡ own_commits l.site (log_in b l) (length b.log)

-- there is a log for which the ledger stands
pub record HasLog (l : LedgerData) : Type 0 where
  pub base : Base
  pub is : IsLedgerOf base l

-- for whatever log the one stands, the other stands for what that log became
abbrev pub StandsOn : LedgerData → LedgerData → Type 0
StandsOn before after = (b : Base) → IsLedgerOf b before → IsLedgerOf b after

-- a transaction of this id is among them
abbrev pub holds_id : List Transaction → TxnId → Bool
holds_id pools id = list_any (λ p. same_id p.id id) pools

-- the ledger is of the same site, of as many
pub record IsSameSite (before after : LedgerData) : Type 0 where
  pub count : after.count ≡ before.count
  pub site : after.site ≡ before.site

-- the ledger of a site that has heard and done nothing
pub record IsFirst (sites own : ℕ) (l : LedgerData) : Type 0 where
  pub count : l.count ≡ sites
  pub site : l.site ≡ own
  pub kept : l.kept ≡ []
  pub added : l.added ≡ []
  pub commits : l.commits ≡ []

-- there is a log for which the ledger stands whose records of this one's origin were all made before
pub record HasEarlier (l : LedgerData) (r : Record) : Type 0 where
  pub base : Base
  pub is : IsLedgerOf base l
  pub after : IsAfter (log_in base l) r

-- there is a log for which the ledger stands that has a Prepare of each of these
pub record HasKnown (l : LedgerData) (ids : List TxnId) : Type 0 where
  pub base : Base
  pub is : IsLedgerOf base l
  pub known : AreKnown (log_in base l) ids

-- there is a log for which the ledger stands that may take the record of a message
pub record HasTakeableOne (site : ℕ) (row : ℕ → ℕ) (l : LedgerData) (r : Record) : Type 0 where
  pub base : Base
  pub is : IsLedgerOf base l
  pub may : MayTake site row (log_in base l) r

-- there is a log for which the ledger stands that may take a message's records
pub record HasTakeable (site : ℕ) (row : ℕ → ℕ) (l : LedgerData) (records : List Record) : Type 0 where
  pub base : Base
  pub is : IsLedgerOf base l
  pub may : All (MayTake site row (log_in base l)) records

-- a ledger took records in, and its site's clock went on with them
pub record GoesOn (before : LedgerData) (clock : ℕ) (after : LedgerData) (clock' : ℕ) : Type 0 where
  pub count : after.count ≡ before.count
  pub site : after.site ≡ before.site
  pub later : clock ≤ clock'
  pub bounded : clock' ≤ 2 ^ 62 + length after.added

-- a ledger with its site's clock stands for what this change makes of the log and the clock
pub record BecomesIntake (b : Base) (before : LedgerData) (clock : ℕ) (after : LedgerData) (clock' : ℕ) (change : Intake → Intake) : Type 0 where
  pub stands : IsLedgerOf b after
  pub intake : intake_in b after clock' ≡ change (intake_in b before clock)
