-- What an own Commit has waited for, and which records of other sites stand before it.
use Rattle.std.specs.Prelude.{◌≡◌, ◌≢◌, true, ℕ, ◌<◌, List, All, Contains}
use Rattle.helios_model.specs.declared.records.Record.{Record}
use Rattle.helios_model.specs.declared.records.Record.TheVariants.{Prepare, Commit, Abort}
use Rattle.helios_model.specs.Plans.{PlanData, count_of}
use Rattle.helios_model.specs.Offset.{is_past, IsWithin}
use Rattle.helios_model.specs.Log.{origin, own_time}
use Rattle.protocol_laws.specs.Shapes.{EachBehind}
use Rattle.protocol_laws.specs.Clusters.{Cluster}

-- by the table of now, the site of an own Commit has heard of every other site far enough past the time of its id
abbrev pub HasWaited : PlanData → Cluster → ℕ → Record → Type 0
HasWaited plan w site (Prepare p) = Unit {0}
HasWaited plan w site (Commit id time) = id.site ≡ site → (j : ℕ) → j < count_of plan → j ≢ site → is_past plan site j id.time (w.tab site site j) ≡ true
HasWaited plan w site (Abort id time cause) = Unit {0}

-- before an own Commit stands each record that another site has made up to the time of the id and the offset between the two
abbrev pub HasSeen : PlanData → Cluster → ℕ → List Record → Record → Type 0
HasSeen plan w site before (Prepare p) = Unit {0}
HasSeen plan w site before (Commit id time) = id.site ≡ site → (j : ℕ) (r : Record) → j < count_of plan → j ≢ site → Contains (w.log j) r → origin r ≡ j
    → IsWithin plan site j id.time (own_time r) → Contains before r
HasSeen plan w site before (Abort id time cause) = Unit {0}

pub record Reach (plan : PlanData) (w : Cluster) : Type 0 where
  pub waited : (i : ℕ) → All (HasWaited plan w i) (w.log i)
  pub seen : (i : ℕ) → EachBehind (HasSeen plan w i) (w.log i)
