-- Honest knowledge: what tables of times and messages tell is so.
use Rattle.std.specs.Prelude.{◌≡◌, ℕ, ◌<◌, ◌≤◌, ◌⊎◌, slice_index, All}
use Rattle.helios_model.specs.declared.records.Record.{Record}
use Rattle.helios_model.specs.declared.messages.Message.{Message}
use Rattle.helios_model.specs.Grid.{at}
use Rattle.helios_model.specs.Plans.{PlanData, count_of}
use Rattle.helios_model.specs.Log.{origin, own_time}
use Rattle.helios_model.specs.Node.{clock, known}
use Rattle.helios_model.specs.Sequences.{Mem, Before, Rising, last_own, of, upto, over}
use Rattle.helios_model.specs.World.{World, node_of}

-- a message's table is at most each site's own row, and its cover at most its sender's row; its records of each origin are,
-- in order, exactly those of the origin's log above what its table says of its receiver and up to its cover; and what stands
-- before one of them in the log of its origin stands before it in the message too, or its table says that the receiver has it
pub record IsHonestMessage (plan : PlanData) (w : World) (m : Message) : Type 0 where
  pub table : (a b : ℕ) → a < count_of plan → b < count_of plan → at (count_of plan) m.table a b ≤ known plan (node_of plan w a) a b
  pub cover : (k : ℕ) → k < count_of plan → slice_index m.cover k ≤ known plan (node_of plan w m.from) m.from k
  pub exact : (k : ℕ) → k < count_of plan
      → of k m.records ≡ over (at (count_of plan) m.table m.to k) (upto (slice_index m.cover k) (of k (node_of plan w k).log))
  pub causal : (x r : Record) → Mem r m.records → Before x r (node_of plan w (origin r)).log
      → Before x r m.records ⊎ (own_time x ≤ at (count_of plan) m.table m.to (origin x))

-- no site's table says more of another site than that site's own row; the own times of each origin rise in its own log, none
-- above its clock; a log has, in order, exactly the records of each origin up to the time that the site's own row has of it;
-- what stands before a record in the log of its origin stands before it in each log; and each message that was sent is honest
pub record IsHonest (plan : PlanData) (w : World) : Type 0 where
  pub table : (i j k : ℕ) → i < count_of plan → j < count_of plan → k < count_of plan
      → known plan (node_of plan w i) j k ≤ known plan (node_of plan w j) j k
  pub rises : (k : ℕ) → k < count_of plan → Rising 0 (of k (node_of plan w k).log)
  pub last : (k : ℕ) → k < count_of plan → last_own 0 (of k (node_of plan w k).log) ≤ clock plan (node_of plan w k)
  pub exact : (i k : ℕ) → i < count_of plan → k < count_of plan
      → of k (node_of plan w i).log ≡ upto (known plan (node_of plan w i) i k) (of k (node_of plan w k).log)
  pub causal : (i : ℕ) (x r : Record) → i < count_of plan → Mem r (node_of plan w i).log
      → Before x r (node_of plan w (origin r)).log → Before x r (node_of plan w i).log
  pub sent : All (IsHonestMessage plan w) w.sent
