-- Serial histories: each commit reads and overwrites what the ones before it wrote.
use Rattle.std.specs.Prelude.{◌≡◌, false, ℕ, List, [], ◌∷◌, All, AllPairs}
use Rattle.helios_model.specs.declared.ids.Version.{Version}
use Rattle.helios_model.specs.declared.ids.Version.TheVariants.{Initial}
use Rattle.helios_model.specs.declared.records.CommitEvent.{CommitEvent}
use Rattle.helios_model.specs.Ids.{same_id}
use Rattle.helios_model.specs.Transactions.{Transaction}
use Rattle.helios_model.specs.Log.{version_after}

-- every read has the map's version, and every write overwrites it
pub record Follows (versions : List ℕ → Version) (p : Transaction) : Type 0 where
  pub reads : All (λ r. r.version ≡ versions r.key) p.reads
  pub writes : All (λ w. w.over ≡ versions w.key) p.writes

-- each commit in turn follows the map, and then its written keys map to its id
abbrev pub SerialFrom : (List ℕ → Version) → List CommitEvent → Type 0
SerialFrom versions [] = Unit {0}
SerialFrom versions (e ∷ es) = Follows versions e.prepare × SerialFrom (λ key. version_after key (versions key) e) es

-- the commits are a serial history that gives every version read; the map begins with Initial at every key
pub record IsSerial (history : List CommitEvent) : Type 0 where
  pub distinct : AllPairs (λ a b. same_id a.prepare.id b.prepare.id ≡ false) history
  pub serial : SerialFrom (λ key. Initial) history
