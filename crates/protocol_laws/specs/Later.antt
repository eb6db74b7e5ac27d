-- What holds between a world that steps reach and each one that further steps reach from it.
use Rattle.std.specs.Prelude.{◌≡◌, ℕ, ◌<◌, List, [], ◌∷◌, ◌++◌, length, drop, slice_index, All, Contains}
use Rattle.std.specs.List.{flat_map}
use Rattle.helios_model.specs.declared.ids.TxnId.{TxnId}
use Rattle.helios_model.specs.declared.ids.Version.{Version}
use Rattle.helios_model.specs.declared.ids.Version.TheVariants.{Initial, Of}
use Rattle.helios_model.specs.declared.messages.Message.{Message}
use Rattle.helios_model.specs.declared.records.Record.{Record}
use Rattle.helios_model.specs.declared.records.Record.TheVariants.{Prepare, Commit, Abort}
use Rattle.helios_model.specs.Grid.{at}
use Rattle.helios_model.specs.Transactions.{Transaction}
use Rattle.helios_model.specs.Plans.{PlanData, count_of}
use Rattle.helios_model.specs.Log.{origin, own_time, prepares}
use Rattle.helios_model.specs.World.{World, Event, MayRun, first_world, node_of, run}

-- so it is of each world that steps reach and each later one
abbrev pub AfterEachWorld : (PlanData → World → World → Type 0) → Type 0
AfterEachWorld F = (plan : PlanData) (events more : List Event) → MayRun plan (first_world plan) events → MayRun plan (run plan (first_world plan) events) more
    → F plan (run plan (first_world plan) events) (run plan (run plan (first_world plan) events) more)

-- an id that a Prepare of any log has is given to no other transaction, then or later
abbrev pub IdsStayGiven : PlanData → World → World → Type 0
IdsStayGiven plan w v = (i j : ℕ) → i < count_of plan → j < count_of plan → (p q : Transaction) → Contains (prepares (node_of plan w i).log) p
    → Contains (prepares (node_of plan v j).log) q → p.id ≡ q.id → p ≡ q

abbrev pub EachIdStaysGiven : Type 0
EachIdStaysGiven = AfterEachWorld IdsStayGiven

abbrev pub id_in : Version → List TxnId
id_in Initial = []
id_in (Of id) = id ∷ []

-- the ids that a record names
abbrev pub ids_in : Record → List TxnId
ids_in (Prepare p) = p.id ∷ (flat_map (λ r. id_in r.version) p.reads ++ flat_map (λ w. id_in w.over) p.writes)
ids_in (Commit id time) = id ∷ []
ids_in (Abort id time cause) = id ∷ cause ∷ []

-- a time of a site is above each time that a message gives for it: in every row of its table and in its cover, of the site's
-- own records, and in the site's ids that its records name
pub record IsAboveMessage (plan : PlanData) (m : Message) (k time : ℕ) : Type 0 where
  pub table : (a : ℕ) → a < count_of plan → at (count_of plan) m.table a k < time
  pub cover : slice_index m.cover k < time
  pub records : All (λ r. origin r ≡ k → own_time r < time) m.records
  pub ids : All (λ r. All (λ id. id.site ≡ k → id.time < time) (ids_in r)) m.records

-- what a site makes later is above each time that a message which was sent by then gives for the site
abbrev pub TimesAreKept : PlanData → World → World → Type 0
TimesAreKept plan w v = (m : Message) → Contains w.sent m → (k : ℕ) → k < count_of plan
    → All (λ r. origin r ≡ k → IsAboveMessage plan m k (own_time r)) (drop (length (node_of plan w k).log) (node_of plan v k).log)

abbrev pub EachTimeIsKept : Type 0
EachTimeIsKept = AfterEachWorld TimesAreKept
