-- Conflict order: of an own transaction that is not aborted and another one of that log which conflicts with it, the one that
-- comes first ends before the other is taken; and an own Commit comes only after all that another site made up to the offset.
use Rattle.std.specs.Prelude.{◌≡◌, ◌≢◌, Bool, true, false, ℕ, ◌<◌, List, ◌∷◌, ◌++◌, Contains}
use Rattle.std.specs.List.{list_any}
use Rattle.helios_model.specs.declared.ids.TxnId.{TxnId}
use Rattle.helios_model.specs.declared.records.Record.{Record}
use Rattle.helios_model.specs.declared.records.Record.TheVariants.{Prepare, Commit, Abort}
use Rattle.helios_model.specs.Ids.{same_id}
use Rattle.helios_model.specs.Transactions.{Transaction, conflict}
use Rattle.helios_model.specs.Plans.{PlanData, count_of}
use Rattle.helios_model.specs.Offset.{IsWithin}
use Rattle.helios_model.specs.Log.{finished, origin, own_time, prepares}
use Rattle.helios_model.specs.World.{World, node_of}

-- the record is an Abort of this id
abbrev pub aborts : TxnId → Record → Bool
aborts id (Prepare p) = false
aborts id (Commit other time) = false
aborts id (Abort other time cause) = same_id other id

abbrev pub aborted : List Record → TxnId → Bool
aborted log id = list_any (aborts id) log

-- where q's Prepare stands in the log, p's before it, and the two conflict, p has its Commit or Abort before q's Prepare
abbrev pub EndsFirst : List Record → Transaction → Transaction → Type 0
EndsFirst log p q = (before after : List Record) → log ≡ before ++ Prepare q ∷ after → Contains (prepares before) p → conflict p q ≡ true
    → finished before p.id ≡ true

-- of an own Prepare, where it comes first one that has no Abort, and another one that conflicts with it, the one that comes first ends first
pub record ConflictsEndFirst (site : ℕ) (log : List Record) : Type 0 where
  pub own_later : (p q : Transaction) → q.id.site ≡ site → EndsFirst log p q
  pub own_earlier : (p q : Transaction) → p.id.site ≡ site → aborted log p.id ≡ false → EndsFirst log p q

-- before an own Commit of site i stands each record that site j made up to the id's time and the offset from i to j
abbrev pub CommitsBehind : PlanData → World → ℕ → ℕ → Type 0
CommitsBehind plan w i j = (before after : List Record) (id : TxnId) (time : ℕ) (r : Record)
    → (node_of plan w i).log ≡ before ++ Commit id time ∷ after → id.site ≡ i
    → Contains (node_of plan w j).log r → origin r ≡ j → IsWithin plan i j id.time (own_time r) → Contains before r

pub record IsOrdered (plan : PlanData) (w : World) : Type 0 where
  pub conflicts : (k : ℕ) → k < count_of plan → ConflictsEndFirst k (node_of plan w k).log
  pub commits : (i j : ℕ) → i < count_of plan → j < count_of plan → j ≢ i → CommitsBehind plan w i j
