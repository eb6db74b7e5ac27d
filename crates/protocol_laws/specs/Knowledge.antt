-- What small steps keep of what sites know.
use Rattle.std.specs.Prelude.{◌≡◌, true, false, ℕ, List, ◌∷◌, ◌++◌}
use Rattle.helios_model.specs.declared.ids.TxnId.{TxnId}
use Rattle.helios_model.specs.declared.records.Record.{Record}
use Rattle.helios_model.specs.Plans.{PlanData}
use Rattle.helios_model.specs.Log.{ends}
use Rattle.helios_model.specs.Exchange.{is_passed, is_unfinished, take_all}
use Rattle.helios_model.specs.Sequences.{Mem}
use Rattle.protocol_laws.specs.Clusters.{Letter, Cluster, Honest}
use Rattle.protocol_laws.specs.SmallSteps.{IsReached}

-- as a message that was sent to a site is taken there record by record, each Commit or Abort that is above the site's row
-- finds its Prepare unfinished: none is passed over for want of it
abbrev pub NoEndIsDropped : Cluster → Type 0
NoEndIsDropped w =
    (s : ℕ) (m : Letter) → Mem m w.sent → m.receiver ≡ s
    → (done rest : List Record) (r : Record) (id : TxnId) → m.records ≡ done ++ r ∷ rest → ends id r ≡ true → is_passed s (w.tab s s) r ≡ false
    → is_unfinished (take_all s (w.tab s s) (record { log = w.log s; clock = w.tab s s s }) done).log id ≡ true

-- in each cluster that small steps reach, tables and messages are honest
abbrev pub EachClusterIsHonest : Type 0
EachClusterIsHonest = (plan : PlanData) (w : Cluster) → IsReached plan w → Honest w

-- and each released Commit and Abort comes behind its Prepare
abbrev pub EachEndIsTaken : Type 0
EachEndIsTaken = (plan : PlanData) (w : Cluster) → IsReached plan w → NoEndIsDropped w
