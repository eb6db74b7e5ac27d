-- What sites tell each other: which records are due, what a message covers, and how a log takes a message's records in.
use Rattle.std.specs.Prelude.{Bool, ℕ, ◌+◌, ◌-◌, ◌*◌, ◌/◌, ◌%◌, List, [], ◌∷◌, ◌++◌, Option, Some, None, ◌||◌, nat_eq, nat_le, nat_lt, max, if◌then◌else◌, slice_index, filter, map, fold, find, take, drop}
use Rattle.std.specs.List.{list_any, range_with_len}
use Rattle.helios_model.specs.declared.ids.TxnId.{TxnId}
use Rattle.helios_model.specs.declared.records.Record.{Record}
use Rattle.helios_model.specs.declared.records.Record.TheVariants.{Prepare, Commit, Abort}
use Rattle.helios_model.specs.Limits.{most_records}
use Rattle.helios_model.specs.Ids.{same_id}
use Rattle.helios_model.specs.Grid.{at}
use Rattle.helios_model.specs.Transactions.{Transaction, conflict}
use Rattle.helios_model.specs.Log.{is_own, origin, own_time, unfinished}

-- a row of times says up to when a site knows each other one: the records above it are due
abbrev pub is_due : (ℕ → ℕ) → Record → Bool
is_due row r = nat_lt (row (origin r)) (own_time r)

abbrev pub due : (ℕ → ℕ) → List Record → List Record
due row log = filter (is_due row) log

-- a message holds the first of the due records, in log order
abbrev pub sent_records : (ℕ → ℕ) → List Record → List Record
sent_records row log = take most_records (due row log)

abbrev pub left_off : (ℕ → ℕ) → List Record → List Record
left_off row log = drop most_records (due row log)

-- up to when a message tells of a site: as far as its sender knows, or to just before the first record that was left off
abbrev pub covered : ℕ → Option Record → ℕ
covered known None = known
covered known (Some r) = own_time r - 1

abbrev pub cover_at : (ℕ → ℕ) → List Record → ℕ → ℕ
cover_at own left k = covered (own k) (find (λ r. nat_eq (origin r) k) left)

-- a log that takes records in, and its site's clock
pub record Intake : Type 0 where
  pub log : List Record
  pub clock : ℕ

abbrev pub with_taken : Intake → Record → Intake
with_taken a r = record { log = a.log ++ r ∷ []; clock = a.clock }

-- passed over: what the site made itself, and what its own row told of as the message came
abbrev pub is_passed : ℕ → (ℕ → ℕ) → Record → Bool
is_passed site row r = nat_eq (origin r) site || nat_le (own_time r) (row (origin r))

-- the id has an unfinished Prepare in the log
abbrev pub is_unfinished : List Record → TxnId → Bool
is_unfinished log id = list_any (λ p. same_id p.id id) (unfinished log)

-- the ids of the site's unfinished transactions that conflict with an arriving one, in log order
abbrev pub clashing : ℕ → List Record → Transaction → List TxnId
clashing site log p = map (λ q. q.id) (filter (conflict p) (filter (is_own site) (unfinished log)))

-- an Abort at the next time, which names its cause
abbrev pub abort_one : TxnId → Intake → TxnId → Intake
abort_one cause a id = record { log = a.log ++ Abort id (a.clock + 1) cause ∷ []; clock = a.clock + 1 }

-- an arriving Prepare, and behind it an Abort of each own unfinished transaction that conflicts with it
abbrev pub take_prepare : ℕ → Intake → Transaction → Intake
take_prepare site a p = fold (abort_one p.id) (with_taken a (Prepare p)) (clashing site a.log p)

-- an arriving Commit or Abort is passed over where its id has no unfinished Prepare
abbrev pub take_end : Intake → TxnId → Record → Intake
take_end a id r = if is_unfinished a.log id then with_taken a r else a

abbrev pub take_new : ℕ → Intake → Record → Intake
take_new site a (Prepare p) = take_prepare site a p
take_new site a (Commit id time) = take_end a id (Commit id time)
take_new site a (Abort id time cause) = take_end a id (Abort id time cause)

abbrev pub take_one : ℕ → (ℕ → ℕ) → Intake → Record → Intake
take_one site row a r = if is_passed site row r then a else take_new site a r

-- a message's records are taken in their order, by the row that the site had as the message came
abbrev pub take_all : ℕ → (ℕ → ℕ) → Intake → List Record → Intake
take_all site row a records = fold (take_one site row) a records

-- the site's own row takes the greater of itself and the cover, but not at the site
abbrev pub own_merged : ℕ → ℕ → ℕ → ℕ → ℕ
own_merged own column known told = if nat_eq column own then known else max known told

-- every other row takes the greater of itself and the message's
abbrev pub merged_at : ℕ → ℕ → List ℕ → List ℕ → List ℕ → ℕ → ℕ → ℕ
merged_at count own table theirs cover row column =
    if nat_eq row own then own_merged own column (at count table row column) (slice_index cover column)
    else max (at count table row column) (at count theirs row column)

abbrev pub merged : ℕ → ℕ → List ℕ → List ℕ → List ℕ → List ℕ
merged count own table theirs cover =
    map (λ place. merged_at count own table theirs cover (place / count) (place % count)) (range_with_len 0 (count * count))
