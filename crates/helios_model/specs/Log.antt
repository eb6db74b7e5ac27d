-- What a log of records says: which transactions are open, which committed, and the current versions.
use Rattle.std.specs.Prelude.{Bool, false, ℕ, List, [], Option, Some, None, not, nat_eq, if◌then◌else◌, filter, fold, find}
use Rattle.std.specs.List.{list_any, filter_map}
use Rattle.std.specs.Option.{option_map}
use Rattle.helios_model.specs.declared.ids.TxnId.{TxnId}
use Rattle.helios_model.specs.declared.ids.Version.{Version}
use Rattle.helios_model.specs.declared.ids.Version.TheVariants.{Initial, Of}
use Rattle.helios_model.specs.declared.transactions.WriteItem.{WriteItem}
use Rattle.helios_model.specs.declared.records.Record.{Record}
use Rattle.helios_model.specs.declared.records.Record.TheVariants.{Prepare, Commit, Abort}
use Rattle.helios_model.specs.declared.records.CommitEvent.{CommitEvent}
use Rattle.helios_model.specs.Ids.{same_id}
use Rattle.helios_model.specs.Transactions.{Transaction, writes_key}
use Rattle.helios_model.specs.Texts.{same_text}

abbrev pub id_of : Record → TxnId
id_of (Prepare p) = p.id
id_of (Commit id time) = id
id_of (Abort id time cause) = id

-- the site of a record's id
abbrev pub origin : Record → ℕ
origin r = (id_of r).site

-- when the origin made the record
abbrev pub own_time : Record → ℕ
own_time (Prepare p) = p.id.time
own_time (Commit id time) = time
own_time (Abort id time cause) = time

-- the record is a Commit or an Abort of this id
abbrev pub ends : TxnId → Record → Bool
ends id (Prepare p) = false
ends id (Commit other time) = same_id other id
ends id (Abort other time cause) = same_id other id

abbrev pub finished : List Record → TxnId → Bool
finished log id = list_any (ends id) log

abbrev pub prepare_in : Record → Option Transaction
prepare_in (Prepare p) = Some p
prepare_in (Commit id time) = None
prepare_in (Abort id time cause) = None

abbrev pub prepares : List Record → List Transaction
prepares log = filter_map prepare_in log

-- the Prepare of an id
abbrev pub prepare_of : List Record → TxnId → Option Transaction
prepare_of log id = find (λ p. same_id p.id id) (prepares log)

-- whether a site made this transaction
abbrev pub is_own : ℕ → Transaction → Bool
is_own site p = nat_eq p.id.site site

-- the Prepares, in log order, with no Commit or Abort of their id
abbrev pub unfinished : List Record → List Transaction
unfinished log = filter (λ p. not (finished log p.id)) (prepares log)

-- a Commit, with the transaction that it commits
abbrev pub event_at : ℕ → Transaction → CommitEvent
event_at time p = record { prepare = p; time = time }

abbrev pub commit_in : List Record → Record → Option CommitEvent
commit_in log (Prepare p) = None
commit_in log (Commit id time) = option_map (event_at time) (prepare_of log id)
commit_in log (Abort id time cause) = None

-- the committed transactions, in the order of their Commits
abbrev pub commits : List Record → List CommitEvent
commits log = filter_map (commit_in log) log

-- a key's version after one more commit
abbrev pub version_after : List ℕ → Version → CommitEvent → Version
version_after key version e = if writes_key e.prepare key then Of e.prepare.id else version

-- the version of a key: the id of the last Commit whose Prepare writes it
abbrev pub current : List Record → List ℕ → Version
current log key = fold (version_after key) Initial (commits log)

-- what a transaction writes under a key
abbrev pub written : Transaction → List ℕ → Option WriteItem
written p key = find (λ w. same_text w.key key) p.writes

abbrev pub write_over : List ℕ → Option WriteItem → List ℕ
write_over value None = value
write_over value (Some w) = w.value

abbrev pub value_after : List ℕ → List ℕ → CommitEvent → List ℕ
value_after key value e = write_over value (written e.prepare key)

-- the value of a key: that which the last such Prepare writes, else the empty value
abbrev pub current_value : List Record → List ℕ → List ℕ
current_value log key = fold (value_after key) [] (commits log)
