-- A cluster as the laws see it: for each site, which is a number, its log and its table of times, what was sent, and the
-- commit events. What is known of it: tables and messages are honest.
use Rattle.std.specs.Prelude.{◌≡◌, ℕ, ◌≤◌, List, ◌⊎◌}
use Rattle.helios_model.specs.declared.records.Record.{Record}
use Rattle.helios_model.specs.declared.records.CommitEvent.{CommitEvent}
use Rattle.helios_model.specs.Log.{origin, own_time}
use Rattle.helios_model.specs.Sequences.{Mem, Before, Rising, last_own, of, upto, over}

-- a message: its sender's table, up to when it tells of each site, and records of the sender's log
pub record Letter : Type 0 where
  pub sender : ℕ
  pub receiver : ℕ
  pub table : ℕ → ℕ → ℕ
  pub cover : ℕ → ℕ
  pub records : List Record

pub record Cluster : Type 0 where
  pub log : ℕ → List Record
  pub tab : ℕ → ℕ → ℕ → ℕ
  pub sent : List Letter
  pub history : List CommitEvent

-- a message tells no more than is so: its table is no higher than each site's own row, its cover no higher than its sender's
-- row; its records of an origin are exactly those that the receiver is not known to have, up to the cover; and what stands
-- before one of them at its origin stands before it in the message too, or the receiver is known to have it
pub record HonestLetter (w : Cluster) (m : Letter) : Type 0 where
  pub table : (a b : ℕ) → m.table a b ≤ w.tab a a b
  pub cover : (k : ℕ) → m.cover k ≤ w.tab m.sender m.sender k
  pub exact : (k : ℕ) → of k m.records ≡ over (m.table m.receiver k) (upto (m.cover k) (of k (w.log k)))
  pub causal : (x r : Record) → Mem r m.records → Before x r (w.log (origin r))
      → Before x r m.records ⊎ (own_time x ≤ m.table m.receiver (origin x))

-- no site thinks that another one knows more than it does; own times rise by origin; a site has exactly the records of each
-- other one up to the time that its own row tells, with what stands before them at their origin before them; and so is
-- each message. That no site's row is ahead of the other site's clock is not asked for its own sake: the rest needs it.
pub record Honest (w : Cluster) : Type 0 where
  pub table : (i j k : ℕ) → w.tab i j k ≤ w.tab j j k
  pub row : (i k : ℕ) → w.tab i i k ≤ w.tab k k k
  pub rises : (k : ℕ) → Rising 0 (of k (w.log k))
  pub last : (k : ℕ) → last_own 0 (of k (w.log k)) ≤ w.tab k k k
  pub exact : (i k : ℕ) → of k (w.log i) ≡ upto (w.tab i i k) (of k (w.log k))
  pub causal : (i : ℕ) (x r : Record) → Mem r (w.log i) → Before x r (w.log (origin r)) → Before x r (w.log i)
  pub sent : (m : Letter) → Mem m w.sent → HonestLetter w m
