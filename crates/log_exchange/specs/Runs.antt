-- The records that an exchange log keeps, by the numbers of their arrival, and each origin's run of them.
use Rattle.std.specs.Prelude.{◌≡◌, ℕ, ◌<◌, ◌≤◌, List, [], ◌∷◌, Bool, true, false, not, ◌&&◌, Option, Some, None, length, drop, filter, map, nat_eq, nat_le, nat_lt, if◌then◌else◌, slice_index_or}
use Rattle.std.specs.List.{AllByRecursion, list_all, range_with_len}
use Rattle.std.specs.Ordering.{nat_cmp}
use Rattle.std.specs.Map.{lookup}
use Rattle.std.specs.BTreeMap.{is_at}
use Rattle.helios_model.specs.declared.records.Record.{Record}
use Rattle.helios_model.specs.Limits.{most_sites}
use Rattle.helios_model.specs.Grid.{at}
use Rattle.helios_model.specs.Log.{origin, own_time}
use Rattle.log_exchange.specs.declared.run.Stamp.{Stamp}
use Rattle.log_exchange.specs.Kept.{is_needed}

-- each stands in the relation to each that follows it
abbrev pub AllPairs : {X : Type 0} → (X → X → Type 0) → List X → Type 0
AllPairs R [] = Unit {0}
AllPairs R (x ∷ xs) = AllByRecursion (R x) xs × AllPairs R xs

abbrev pub ArrivalsRise : List (ℕ × Record) → Type 0
ArrivalsRise entries = AllPairs (λ e f. e.0 < f.0) entries

-- the times never fall
abbrev pub TimesRise : List Stamp → Type 0
TimesRise stamps = AllPairs (λ a b. a.time ≤ b.time) stamps

-- each is at most this time
abbrev pub IsUpTo : ℕ → List Stamp → Type 0
IsUpTo time stamps = AllByRecursion (λ s. s.time ≤ time) stamps

-- a run that is marked as rising rises
pub record IsRun (stamps : List Stamp) (rising : Bool) (latest : ℕ) : Type 0 where
  pub below : IsUpTo latest stamps
  pub rise : rising ≡ true → TimesRise stamps

abbrev pub first_stamp : List Stamp → Option Stamp
first_stamp [] = None
first_stamp (s ∷ stamps) = Some s

abbrev pub stamp_of : ℕ × Record → Stamp
stamp_of e = record { arrival = e.0; time = own_time e.1 }

abbrev pub is_from : ℕ → ℕ × Record → Bool
is_from k e = nat_eq (origin e.1) k

-- the run of an origin
abbrev pub run_of : ℕ → List (ℕ × Record) → List Stamp
run_of k entries = map stamp_of (filter (is_from k) entries)

-- what is kept without the first of an origin
abbrev pub without_first : ℕ → List (ℕ × Record) → List (ℕ × Record)
without_first k [] = []
without_first k (e ∷ entries) = if is_from k e then entries else e ∷ without_first k entries

-- every site is known to know an origin up to this time, by a table of so many sites
abbrev pub is_known : ℕ → List ℕ → ℕ → ℕ → Bool
is_known count table k time = list_all (λ j. nat_le time (at count table j k)) (range_with_len 0 count)

abbrev pub is_first_known : ℕ → List ℕ → ℕ → List Stamp → Bool
is_first_known count table k [] = false
is_first_known count table k (s ∷ stamps) = is_known count table k s.time

-- it is of another origin, or some site is not known to have it
abbrev pub is_left : ℕ → List ℕ → ℕ → ℕ × Record → Bool
is_left count table k e = not (is_from k e && is_known count table k (own_time e.1))

-- so many sites, and the records with their numbers
pub record Backlogged : Type 0 where
  pub count : ℕ
  pub entries : List (ℕ × Record)

abbrev pub with_left : Backlogged → List ℕ → ℕ → Backlogged
with_left b table k = record { count = b.count; entries = filter (is_left b.count table k) b.entries }

abbrev pub with_all_left : Backlogged → List ℕ → Backlogged
with_all_left b table = record { count = b.count; entries = filter (λ e. is_needed b.count table e.1) b.entries }

-- each record is of one of so many sites
abbrev pub IsOfSite : ℕ → ℕ × Record → Type 0
IsOfSite count e = (origin e.1 < count) × (origin e.1 < most_sites)

pub record IsBacklog (count : ℕ) (entries : List (ℕ × Record)) (runs : List (List Stamp)) (next : ℕ) : Type 0 where
  pub line : ArrivalsRise entries
  pub below : AllByRecursion (λ e. e.0 < next) entries
  pub sites : AllByRecursion (IsOfSite count) entries
  pub sized : length runs ≡ count
  pub by_origin : (k : ℕ) (d : List Stamp) → k < count → slice_index_or runs k d ≡ run_of k entries

-- the stamps above a time
abbrev pub due_stamps : ℕ → List Stamp → List Stamp
due_stamps known stamps = filter (λ s. nat_lt known s.time) stamps

-- the place is that of the first that is due from a place on, or the end
pub record IsNextDue (known : ℕ) (stamps : List Stamp) (from place : ℕ) : Type 0 where
  pub left : due_stamps known (drop place stamps) ≡ due_stamps known (drop from stamps)
  pub head : first_stamp (drop place stamps) ≡ first_stamp (due_stamps known (drop place stamps))

abbrev pub is_first_passed : ℕ → List Stamp → Bool
is_first_passed known [] = false
is_first_passed known (s ∷ stamps) = nat_le s.time known

-- the record under a number
abbrev pub record_under : List (ℕ × Record) → ℕ → Option Record
record_under entries arrival = lookup (is_at (nat_cmp arrival)) entries
