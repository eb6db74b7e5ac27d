-- What honest knowledge gives at once: where a record stands, and that records of one origin and one time are the same.
use Rattle.std.proofs.Common.{◌≡◌, refl, sym, subst, ℕ, ◌<◌, ◌≤◌, nat_le, nat_lt, arith}
use Rattle.helios_model.specs.declared.records.Record.{Record}
use Rattle.helios_model.specs.Log.{origin, own_time}
use Rattle.helios_model.specs.Sequences.{Mem, Rising, of, upto, over}
use Rattle.protocol_laws.specs.Clusters.{Letter, Cluster, HonestLetter, Honest}
use Rattle.protocol_laws.proofs.Rising.{mem_of, of_mem, mem_upto, upto_mem, over_mem, rising_filter, rising_unique}

-- a record of a log stands in its origin's log too, and the log's site knows of it
pub record IsHome (w : Cluster) (i : ℕ) (r : Record) : Type 0 where
  pub there : Mem r (w.log (origin r))
  pub below : own_time r ≤ w.tab i i (origin r)

pub home : (w : Cluster) → Honest w → (i : ℕ) (r : Record) → Mem r (w.log i) → IsHome w i r
home w h i r here =
    let moved : Mem r (upto (w.tab i i (origin r)) (of (origin r) (w.log (origin r)))) =
    subst (λ l. Mem r l) (h.exact i (origin r)) (mem_of (origin r) r (w.log i) here refl) in
    let parts = upto_mem (w.tab i i (origin r)) r (of (origin r) (w.log (origin r))) moved in
    record { there = (of_mem (origin r) r (w.log (origin r)) parts.0).0; below = parts.1 }

-- what a site knows of stands in its log
pub known_here : (w : Cluster) → Honest w → (i : ℕ) (r : Record) → Mem r (w.log (origin r)) → own_time r ≤ w.tab i i (origin r) → Mem r (w.log i)
known_here w h i r there below =
    let short : Mem r (upto (w.tab i i (origin r)) (of (origin r) (w.log (origin r)))) =
    mem_upto (w.tab i i (origin r)) r (of (origin r) (w.log (origin r))) (mem_of (origin r) r (w.log (origin r)) there refl) below in
    (of_mem (origin r) r (w.log i) (subst (λ l. Mem r l) (sym (h.exact i (origin r))) short)).0

-- no record is above the row of a site that has it, nor above its origin's clock
pub row_below : (w : Cluster) → Honest w → (i : ℕ) (r : Record) → Mem r (w.log i) → own_time r ≤ w.tab i i (origin r)
row_below w h i r here = (home w h i r here).below

pub clock_below : (w : Cluster) → Honest w → (i : ℕ) (r : Record) → Mem r (w.log i) → own_time r ≤ w.tab (origin r) (origin r) (origin r)
clock_below w h i r here =
    let below : own_time r ≤ w.tab i i (origin r) = row_below w h i r here in
    let row : w.tab i i (origin r) ≤ w.tab (origin r) (origin r) (origin r) = h.row i (origin r) in
    omega arith

-- the own times of each origin rise in each log
pub log_rises : (w : Cluster) → Honest w → (i k : ℕ) → Rising 0 (of k (w.log i))
log_rises w h i k = subst (λ l. Rising 0 l) (sym (h.exact i k)) (rising_filter (λ r. nat_le (own_time r) (w.tab i i k)) 0 (of k (w.log k)) (h.rises k))

-- two records of any two logs with one origin and one own time are the same
pub same_record : (w : Cluster) → Honest w → (i j : ℕ) (a b : Record) → Mem a (w.log i) → Mem b (w.log j) → origin a ≡ origin b → own_time a ≡ own_time b → a ≡ b
same_record w h i j a b first second origins times =
    rising_unique 0 a b (of (origin b) (w.log (origin b))) (h.rises (origin b))
    (mem_of (origin b) a (w.log (origin b)) (subst (λ k. Mem a (w.log k)) origins (home w h i a first).there) origins)
    (mem_of (origin b) b (w.log (origin b)) (home w h j b second).there refl)
    times

-- a record of an honest message stands in its origin's log, above what the receiver is known to have and within the cover
pub record IsTold (w : Cluster) (m : Letter) (r : Record) : Type 0 where
  pub there : Mem r (w.log (origin r))
  pub above : m.table m.receiver (origin r) < own_time r
  pub within : own_time r ≤ m.cover (origin r)

pub letter_home : (w : Cluster) (m : Letter) → HonestLetter w m → (r : Record) → Mem r m.records → IsTold w m r
letter_home w m e r here =
    let moved : Mem r (over (m.table m.receiver (origin r)) (upto (m.cover (origin r)) (of (origin r) (w.log (origin r))))) =
    subst (λ l. Mem r l) (e.exact (origin r)) (mem_of (origin r) r m.records here refl) in
    let outer = over_mem (m.table m.receiver (origin r)) r (upto (m.cover (origin r)) (of (origin r) (w.log (origin r)))) moved in
    let inner = upto_mem (m.cover (origin r)) r (of (origin r) (w.log (origin r))) outer.0 in
    record { there = (of_mem (origin r) r (w.log (origin r)) inner.0).0; above = outer.1; within = inner.1 }

-- the own times of each origin rise in an honest message
pub letter_rises : (w : Cluster) → Honest w → (m : Letter) → HonestLetter w m → (k : ℕ) → Rising 0 (of k m.records)
letter_rises w h m e k = subst (λ l. Rising 0 l) (sym (e.exact k))
    (rising_filter (λ r. nat_lt (m.table m.receiver k) (own_time r)) 0 (upto (m.cover k) (of k (w.log k)))
    (rising_filter (λ r. nat_le (own_time r) (m.cover k)) 0 (of k (w.log k)) (h.rises k)))

-- a message's cover is no higher than a site's clock, nor is its table
pub cover_below : (w : Cluster) → Honest w → (m : Letter) → HonestLetter w m → (k : ℕ) → m.cover k ≤ w.tab k k k
cover_below w h m e k =
    let first : m.cover k ≤ w.tab m.sender m.sender k = e.cover k in
    let second : w.tab m.sender m.sender k ≤ w.tab k k k = h.row m.sender k in
    omega arith

pub table_below : (w : Cluster) → Honest w → (m : Letter) → HonestLetter w m → (a k : ℕ) → m.table a k ≤ w.tab k k k
table_below w h m e a k =
    let first : m.table a k ≤ w.tab a a k = e.table a k in
    let second : w.tab a a k ≤ w.tab k k k = h.row a k in
    omega arith
