-- The small steps of a cluster, each as what it changes; inputs are chains of them.
use Rattle.std.specs.Prelude.{◌≡◌, ◌≢◌, true, ℕ, ◌+◌, ◌<◌, ◌≤◌, List, [], ◌∷◌, ◌++◌, ◌⊎◌, max, Contains}
use Rattle.helios_model.specs.declared.records.Record.{Record}
use Rattle.helios_model.specs.declared.records.Record.TheVariants.{Prepare, Commit}
use Rattle.helios_model.specs.declared.records.CommitEvent.{CommitEvent}
use Rattle.helios_model.specs.Transactions.{Transaction}
use Rattle.helios_model.specs.Plans.{PlanData, count_of}
use Rattle.helios_model.specs.Offset.{is_past}
use Rattle.helios_model.specs.Log.{event_at, unfinished}
use Rattle.helios_model.specs.Exchange.{Intake, cover_at, left_off, sent_records, take_all}
use Rattle.protocol_laws.specs.Order.{IsAsked}
use Rattle.helios_model.specs.Sequences.{Mem}
use Rattle.protocol_laws.specs.Clusters.{Cluster, Letter}

-- a site's log and the history grow at their ends, and its times do not fall; the other sites' logs and times stay
pub record Moves (w v : Cluster) (s : ℕ) (more : List Record) (events : List CommitEvent) : Type 0 where
  pub other_log : (i : ℕ) → i ≢ s → v.log i ≡ w.log i
  pub other_tab : (i a b : ℕ) → i ≢ s → v.tab i a b ≡ w.tab i a b
  pub log : v.log s ≡ w.log s ++ more
  pub tab : (a b : ℕ) → w.tab s a b ≤ v.tab s a b
  pub history : v.history ≡ w.history ++ events

-- the same by the site itself: of its times only its own clock moves, and nothing new is sent
pub record OwnMoves (w v : Cluster) (s : ℕ) (more : List Record) (events : List CommitEvent) : Type 0 where
  pub moves : Moves w v s more events
  pub others : (a b : ℕ) → (a ≢ s) ⊎ (b ≢ s) → v.tab s a b ≡ w.tab s a b
  pub sent : (m : Letter) → Mem m v.sent → Mem m w.sent

-- a transaction is taken: above the clock, which comes to its time, over current versions, and apart from all that is unfinished
pub record Begins (w v : Cluster) (s : ℕ) (p : Transaction) : Type 0 where
  pub own : OwnMoves w v s (Prepare p ∷ []) []
  pub here : p.id.site ≡ s
  pub above : w.tab s s s < p.id.time
  pub clock : v.tab s s s ≡ p.id.time
  pub asked : IsAsked (w.log s) p

-- an own unfinished transaction commits at the next time, once the site has heard of every other site far enough past its time
pub record Commits (plan : PlanData) (w v : Cluster) (s : ℕ) (p : Transaction) : Type 0 where
  pub own : OwnMoves w v s (Commit p.id (w.tab s s s + 1) ∷ []) (event_at (w.tab s s s + 1) p ∷ [])
  pub here : p.id.site ≡ s
  pub unfinished_here : Contains (unfinished (w.log s)) p
  pub waited : (j : ℕ) → j < count_of plan → j ≢ s → is_past plan s j p.id.time (w.tab s s j) ≡ true
  pub clock : v.tab s s s ≡ w.tab s s s + 1

-- what a site's log and clock become as it takes a message's records
abbrev pub taken : Cluster → ℕ → Letter → Intake
taken w s m = take_all s (w.tab s s) (record { log = w.log s; clock = w.tab s s s }) m.records

-- a message is taken whole: its records, then its times
pub record Takes (w v : Cluster) (s : ℕ) (m : Letter) : Type 0 where
  pub came : Mem m w.sent
  pub here : m.receiver ≡ s
  pub other_log : (i : ℕ) → i ≢ s → v.log i ≡ w.log i
  pub other_tab : (i a b : ℕ) → i ≢ s → v.tab i a b ≡ w.tab i a b
  pub log : v.log s ≡ (taken w s m).log
  pub clock : v.tab s s s ≡ (taken w s m).clock
  pub row : (k : ℕ) → k ≢ s → v.tab s s k ≡ max (w.tab s s k) (m.cover k)
  pub rows : (a k : ℕ) → a ≢ s → v.tab s a k ≡ max (w.tab s a k) (m.table a k)
  pub sent : (x : Letter) → Mem x v.sent → Mem x w.sent
  pub history : v.history ≡ w.history

-- a message is what its sender has for its receiver
pub record IsLetter (w : Cluster) (m : Letter) : Type 0 where
  pub table : (a b : ℕ) → m.table a b ≡ w.tab m.sender a b
  pub records : m.records ≡ sent_records (w.tab m.sender m.receiver) (w.log m.sender)
  pub cover : (k : ℕ) → m.cover k ≡ cover_at (w.tab m.sender m.sender) (left_off (w.tab m.sender m.receiver) (w.log m.sender)) k

-- one more message may have been sent, and nothing else changes
pub record Sends (w v : Cluster) (m : Letter) : Type 0 where
  pub letter : IsLetter w m
  pub same_log : (i : ℕ) → v.log i ≡ w.log i
  pub same_tab : (i a b : ℕ) → v.tab i a b ≡ w.tab i a b
  pub sent : (x : Letter) → Mem x v.sent → Mem x w.sent ⊎ (x ≡ m)
  pub history : v.history ≡ w.history

-- steps are of the plan's sites; a tick moves at most the site's own clock; what was sent may be lost at any step
pub data SmallStep (plan : PlanData) (w v : Cluster) : Type 0 where
  Tick : (s : ℕ) → s < count_of plan → OwnMoves w v s [] [] → SmallStep plan w v
  Begin : (s : ℕ) → s < count_of plan → (p : Transaction) → Begins w v s p → SmallStep plan w v
  Finish : (s : ℕ) → s < count_of plan → (p : Transaction) → Commits plan w v s p → SmallStep plan w v
  Take : (s : ℕ) → s < count_of plan → (m : Letter) → Takes w v s m → SmallStep plan w v
  Send : (m : Letter) → m.sender < count_of plan → Sends w v m → SmallStep plan w v

-- nothing is logged, known, sent or committed
pub record IsFirst (w : Cluster) : Type 0 where
  pub log : (i : ℕ) → w.log i ≡ []
  pub tab : (i a b : ℕ) → w.tab i a b ≡ 0
  pub sent : w.sent ≡ []
  pub history : w.history ≡ []

-- small steps reach this cluster from the first one
pub data IsReached (plan : PlanData) : Cluster → Type 0 where
  Begun : {w : Cluster} → IsFirst w → IsReached plan w
  Gone : {w v : Cluster} → IsReached plan w → SmallStep plan w v → IsReached plan v
