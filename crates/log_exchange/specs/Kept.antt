-- An exchange log as contracts see it: its site, of how many, and the records that it keeps.
use Rattle.std.specs.Prelude.{Bool, ℕ, ◌<◌, List, [], ◌∷◌, ◌++◌, All, filter, map}
use Rattle.std.specs.List.{list_any, range_with_len}
use Rattle.helios_model.specs.declared.records.Record.{Record}
use Rattle.helios_model.specs.Log.{origin}
use Rattle.helios_model.specs.Grid.{at}
use Rattle.helios_model.specs.Exchange.{cover_at, is_due, left_off}

pub record LogData : Type 0 where
  pub count : ℕ
  pub site : ℕ
  pub records : List Record

-- each record is of one of so many sites
abbrev pub AreOf : ℕ → List Record → Type 0
AreOf count records = All (λ r. origin r < count) records

abbrev pub first_log : ℕ → ℕ → LogData
first_log count site = record { count = count; site = site; records = [] }

abbrev pub appended : LogData → Record → LogData
appended l r = record { count = l.count; site = l.site; records = l.records ++ r ∷ [] }

-- the cover of a message, for each site in turn: by what the own row knows, and by the records that another row would be told
abbrev pub cover_of : ℕ → (ℕ → ℕ) → (ℕ → ℕ) → List Record → List ℕ
cover_of count own row records = map (cover_at own (left_off row records)) (range_with_len 0 count)

-- some site is not known to have the record, by a table of so many sites
abbrev pub is_needed : ℕ → List ℕ → Record → Bool
is_needed count table r = list_any (λ j. is_due (at count table j) r) (range_with_len 0 count)

-- the records that some site is not known to have
abbrev pub needed : ℕ → List ℕ → List Record → List Record
needed count table log = filter (is_needed count table) log

abbrev pub with_needed : LogData → List ℕ → LogData
with_needed l table = record { count = l.count; site = l.site; records = needed l.count table l.records }
