-- What the records that some site needs still tell.
use Rattle.std.specs.Prelude.{◌≡◌, ℕ, ◌<◌, ◌≤◌, List, ◌++◌, slice_index}
use Rattle.helios_model.specs.declared.records.Record.{Record}
use Rattle.helios_model.specs.Grid.{at}
use Rattle.helios_model.specs.Exchange.{sent_records}
use Rattle.log_exchange.specs.Kept.{cover_of, needed}

-- of two lists the same records are needed
abbrev pub NeedSame : ℕ → List ℕ → List Record → List Record → Type 0
NeedSame count table kept log = needed count table kept ≡ needed count table log

-- each time is no lower in the later table; past the end of a table there are zeros
abbrev pub IsNoLower : List ℕ → List ℕ → Type 0
IsNoLower table later = (place : ℕ) → slice_index table place ≤ slice_index later place

-- what is needed is needed of what was kept
abbrev pub NeededStays : Type 0
NeededStays = (count : ℕ) (table : List ℕ) (log : List Record) → NeedSame count table (needed count table log) log

-- a message tells the same, whether it is taken from the log or from what of it was kept
abbrev pub NeededTellsRecords : Type 0
NeededTellsRecords = (count : ℕ) (table : List ℕ) (to : ℕ) (kept log : List Record) → to < count → NeedSame count table kept log
    → sent_records (at count table to) kept ≡ sent_records (at count table to) log

abbrev pub NeededTellsCover : Type 0
NeededTellsCover = (count : ℕ) (table : List ℕ) (to : ℕ) (own : ℕ → ℕ) (kept log : List Record) → to < count → NeedSame count table kept log
    → cover_of count own (at count table to) kept ≡ cover_of count own (at count table to) log

-- what a later table needs was needed before
abbrev pub FewerAreNeeded : Type 0
FewerAreNeeded = (count : ℕ) (table later : List ℕ) (log : List Record) → IsNoLower table later → NeedSame count later (needed count table log) log

-- what serves one table serves a later one
abbrev pub KeptServesLater : Type 0
KeptServesLater = (count : ℕ) (table later : List ℕ) (kept log : List Record) → IsNoLower table later → NeedSame count table kept log → NeedSame count later kept log

abbrev pub NeededAppends : Type 0
NeededAppends = (count : ℕ) (table : List ℕ) (front back : List Record) → needed count table (front ++ back) ≡ needed count table front ++ needed count table back
