-- A message as it is filled: for each origin the place in its run of the next record that is due.
use Rattle.std.specs.Prelude.{◌≡◌, ℕ, ◌+◌, ◌-◌, ◌<◌, ◌≤◌, List, true, Option, Some, None, length, drop, take, filter, if◌then◌else◌, nat_le, slice_index}
use Rattle.std.specs.List.{AllByRecursion}
use Rattle.std.specs.Option.{option_map}
use Rattle.std.specs.Map.{values_of}
use Rattle.helios_model.specs.declared.records.Record.{Record}
use Rattle.helios_model.specs.Limits.{most_records}
use Rattle.helios_model.specs.Exchange.{due, is_due, sent_records}
use Rattle.log_exchange.specs.declared.run.Stamp.{Stamp}
use Rattle.log_exchange.specs.declared.selection.Head.{Head}
use Rattle.log_exchange.specs.Runs.{ArrivalsRise, Backlogged, IsNextDue, IsOfSite, due_stamps, first_stamp, record_under, run_of}

-- the next stamp of an origin
abbrev pub head_of : Backlogged → List ℕ → ℕ → Option Stamp
head_of b heads k = first_stamp (drop (slice_index heads k) (run_of k b.entries))

-- the heads stand before just these records
pub record IsAhead (b : Backlogged) (row : ℕ → ℕ) (heads : List ℕ) (rest : List (ℕ × Record)) : Type 0 where
  pub sized : length heads ≡ b.count
  pub left : (k : ℕ) → k < b.count → due_stamps (row k) (drop (slice_index heads k) (run_of k b.entries)) ≡ run_of k rest
  pub head : (k : ℕ) → k < b.count → head_of b heads k ≡ first_stamp (run_of k rest)
  pub line : ArrivalsRise rest
  pub sites : AllByRecursion (IsOfSite b.count) rest
  pub due : AllByRecursion (λ e. is_due row e.1 ≡ true) rest
  pub found : AllByRecursion (λ e. record_under b.entries e.0 ≡ Some e.1) rest

abbrev pub arrival_at : Backlogged → List ℕ → ℕ → Option ℕ
arrival_at b heads k = option_map (λ s. s.arrival) (head_of b heads k)

-- of so many origins none has a head, or the head is that with the lowest number
pub record IsLeast (b : Backlogged) (heads : List ℕ) (n : ℕ) (best : Option Head) : Type 0 where
  pub none : best ≡ None → (k : ℕ) → k < n → arrival_at b heads k ≡ None
  pub some : (h : Head) → best ≡ Some h → (h.site < n) × (arrival_at b heads h.site ≡ Some h.arrival)
  pub least : (h : Head) → best ≡ Some h → (k a : ℕ) → k < n → arrival_at b heads k ≡ Some a → h.arrival ≤ a

-- the head that comes first, of the best so far and one more
abbrev pub earlier_of : Option Head → ℕ → Option Stamp → Option Head
earlier_of best site None = best
earlier_of None site (Some s) = Some (record { site = site; arrival = s.arrival })
earlier_of (Some h) site (Some s) = if nat_le h.arrival s.arrival then Some h else Some (record { site = site; arrival = s.arrival })

-- the least head, where a message of so many records has room for one more
pub record IsNextHead (b : Backlogged) (heads : List ℕ) (taken : ℕ) (best : Option Head) : Type 0 where
  pub none : best ≡ None → taken < most_records → IsLeast b heads b.count None
  pub some : (h : Head) → best ≡ Some h → (taken < most_records) × IsLeast b heads b.count (Some h)

-- the heads at which a message begins
pub record IsStarted (b : Backlogged) (row : ℕ → ℕ) (heads : List ℕ) (n : ℕ) : Type 0 where
  pub sized : length heads ≡ n
  pub next : (k : ℕ) → k < n → IsNextDue (row k) (run_of k b.entries) 0 (slice_index heads k)

-- what a backlog keeps true of its records
pub record IsLine (b : Backlogged) : Type 0 where
  pub line : ArrivalsRise b.entries
  pub sites : AllByRecursion (IsOfSite b.count) b.entries

-- the head of one origin has gone on to its next record that is due
pub record HasGoneOn (b : Backlogged) (known : ℕ) (heads new : List ℕ) (site : ℕ) : Type 0 where
  pub sized : length new ≡ length heads
  pub others : (k : ℕ) → (k ≡ site → ⊥) → slice_index new k ≡ slice_index heads k
  pub next : IsNextDue known (run_of site b.entries) (slice_index heads site + 1) (slice_index new site)

-- up to when a message tells of a site, by the first stamp that is left off
abbrev pub covered_to : ℕ → Option Stamp → ℕ
covered_to known None = known
covered_to known (Some s) = s.time - 1

-- what a message takes of the records, by a row of times, and the heads that are left
pub record IsTaken (b : Backlogged) (row : ℕ → ℕ) (records : List Record) (heads : List ℕ) : Type 0 where
  pub few : length records ≤ most_records
  pub first : records ≡ take (length records) (due row (values_of b.entries))
  pub ahead : IsAhead b row heads (drop (length records) (filter (λ e. is_due row e.1) b.entries))

-- what a whole message takes
pub record IsFilled (b : Backlogged) (row : ℕ → ℕ) (records : List Record) (heads : List ℕ) : Type 0 where
  pub sized : length heads ≡ b.count
  pub sent : records ≡ sent_records row (values_of b.entries)
  pub left : (k : ℕ) → k < b.count → head_of b heads k ≡ first_stamp (run_of k (drop most_records (filter (λ e. is_due row e.1) b.entries)))
