-- Shapes of statements about a list of records.
use Rattle.std.specs.Prelude.{◌≡◌, ◌<◌, List, ◌∷◌, ◌++◌, AllPairs}
use Rattle.helios_model.specs.declared.records.Record.{Record}
use Rattle.helios_model.specs.Log.{origin, own_time}

-- what holds of each record with the records before it
abbrev pub EachBehind : (List Record → Record → Type 0) → List Record → Type 0
EachBehind F log = (before : List Record) (r : Record) (after : List Record) → log ≡ before ++ r ∷ after → F before r

-- the own times of each origin rise strictly
abbrev pub Rises : List Record → Type 0
Rises log = AllPairs (λ a b. origin a ≡ origin b → own_time a < own_time b) log
