-- What holds of each site's log in each world.
use Rattle.std.specs.Prelude.{◌≡◌, true, false, ℕ, ◌<◌, List, ◌∷◌, ◌++◌, length, drop, All, AllPairs, Contains}
use Rattle.helios_model.specs.declared.ids.TxnId.{TxnId}
use Rattle.helios_model.specs.declared.entries.Entry.{Entry}
use Rattle.helios_model.specs.declared.records.Record.{Record}
use Rattle.helios_model.specs.declared.records.Record.TheVariants.{Prepare, Commit, Abort}
use Rattle.helios_model.specs.Ids.{same_id}
use Rattle.helios_model.specs.Transactions.{Transaction}
use Rattle.helios_model.specs.ConflictOrder.{aborted, EndsFirst}
use Rattle.helios_model.specs.Plans.{PlanData, count_of}
use Rattle.helios_model.specs.Log.{ends, finished, prepares, current}
use Rattle.helios_model.specs.Node.{Node, empty_node}
use Rattle.helios_model.specs.Serial.{Follows}
use Rattle.helios_model.specs.Step.{after_entry, after_entries}
use Rattle.helios_model.specs.World.{World, entries_of, node_of}
use Rattle.protocol_laws.specs.Reached.{InEachWorld, AtEachNode}
use Rattle.protocol_laws.specs.Shapes.{EachBehind}
use Rattle.protocol_laws.specs.Order.{IsPending, IsClearBehind}
use Rattle.protocol_laws.specs.Nodes.{OwnTimesRise, IsWaited}

abbrev pub EachTimeRises : Type 0
EachTimeRises = AtEachNode OwnTimesRise

-- no two Prepares of a log have one id, and a Prepare of an id is the same in each log
pub record IdsAreGivenOnce (plan : PlanData) (w : World) : Type 0 where
  pub in_log : (k : ℕ) → k < count_of plan → AllPairs (λ p q. same_id p.id q.id ≡ false) (prepares (node_of plan w k).log)
  pub across : (i j : ℕ) → i < count_of plan → j < count_of plan → (p q : Transaction) → Contains (prepares (node_of plan w i).log) p
      → Contains (prepares (node_of plan w j).log) q → p.id ≡ q.id → p ≡ q

abbrev pub EachIdIsGivenOnce : Type 0
EachIdIsGivenOnce = InEachWorld IdsAreGivenOnce

-- a Commit or an Abort ends an id that has a Prepare before it and is not ended, later than the time of the id
pub record IsEnding (before : List Record) (id : TxnId) (time : ℕ) : Type 0 where
  pub pending : IsPending before id
  pub later : id.time < time

abbrev pub EndsPending : List Record → Record → Type 0
EndsPending before (Prepare p) = Unit {0}
EndsPending before (Commit id time) = IsEnding before id time
EndsPending before (Abort id time cause) = IsEnding before id time

-- each Commit and Abort ends what is pending, and no two of them end one id
pub record EndingsFollow (plan : PlanData) (n : Node) : Type 0 where
  pub behind : EachBehind EndsPending n.log
  pub once : AllPairs (λ a b. (id : TxnId) → ends id a ≡ true → ends id b ≡ false) n.log

abbrev pub EachEndingFollows : Type 0
EachEndingFollows = AtEachNode EndingsFollow

-- no Prepare behind an own unfinished one conflicts with it; and of two that conflict, of which the later one is own, or
-- the earlier one is own and never aborted, the earlier one is ended before the later one is taken
pub record ConflictsAreOrdered (plan : PlanData) (n : Node) : Type 0 where
  pub clear : (p : Transaction) → p.id.site ≡ n.site → finished n.log p.id ≡ false → IsClearBehind n.log p
  pub own_later : (p q : Transaction) → q.id.site ≡ n.site → EndsFirst n.log p q
  pub own_earlier : (p q : Transaction) → p.id.site ≡ n.site → aborted n.log p.id ≡ false → EndsFirst n.log p q

abbrev pub EachConflictIsOrdered : Type 0
EachConflictIsOrdered = AtEachNode ConflictsAreOrdered

abbrev pub FollowsBefore : ℕ → List Record → Record → Type 0
FollowsBefore site before (Prepare p) = p.id.site ≡ site → Follows (current before) p
FollowsBefore site before (Commit id time) = Unit {0}
FollowsBefore site before (Abort id time cause) = Unit {0}

-- where an own transaction is taken, each version that it read or overwrites is the current one
abbrev pub VersionsWereCurrent : PlanData → Node → Type 0
VersionsWereCurrent plan n = EachBehind (FollowsBefore n.site) n.log

abbrev pub EachVersionWasCurrent : Type 0
EachVersionWasCurrent = AtEachNode VersionsWereCurrent

-- what an input adds to the log waited by the table just after it
abbrev pub NewCommitsWaited : PlanData → Node → Entry → Type 0
NewCommitsWaited plan n e = All (IsWaited plan (after_entry plan n e)) (drop (length n.log) (after_entry plan n e).log)

-- each own Commit waited, by the table as it stood at the Commit: settling changes no other site's time, so that table is,
-- but for the site's own time, the one just after the input at which it came; and so it still is by the table of today
pub record CommitsWaited (plan : PlanData) (w : World) (k : ℕ) : Type 0 where
  pub at_commit : (before : List Entry) (e : Entry) (after : List Entry) → entries_of w k ≡ before ++ e ∷ after
      → NewCommitsWaited plan (after_entries plan (empty_node plan k) before) e
  pub still : All (IsWaited plan (node_of plan w k)) (node_of plan w k).log

abbrev pub EachCommitWaited : Type 0
EachCommitWaited = InEachWorld (λ plan w. (k : ℕ) → k < count_of plan → CommitsWaited plan w k)
