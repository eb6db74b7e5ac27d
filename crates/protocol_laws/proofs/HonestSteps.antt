-- Honest knowledge is kept by each small step.
use Rattle.std.proofs.Common.{◌≡◌, ◌≢◌, ◌∙◌, ap, sym, subst, ℕ, ◌+◌, ◌<◌, ◌≤◌, max, nat_eq, nat_le, ◌⊎◌, inl, inr, [], ◌∷◌, ◌++◌, arith}
use Rattle.std.proofs.lemmas.List.{append-nil}
use Rattle.std.proofs.lemmas.Bool.{cases_eq, or_parts, eqb-false, leb-false}
use Rattle.helios_model.specs.declared.records.Record.{Record}
use Rattle.helios_model.specs.declared.records.Record.TheVariants.{Prepare, Commit}
use Rattle.helios_model.specs.Plans.{PlanData}
use Rattle.helios_model.specs.Transactions.{Transaction}
use Rattle.helios_model.specs.Log.{origin, own_time, event_at}
use Rattle.helios_model.specs.Exchange.{take_all}
use Rattle.protocol_laws.specs.Order.{OrderLaws}
use Rattle.helios_model.specs.Sequences.{Mem, Before, Rising, last_own, of, upto, over}
use Rattle.protocol_laws.specs.Clusters.{Letter, Cluster, HonestLetter, Honest}
use Rattle.protocol_laws.specs.SmallSteps.{Begins, Commits, taken, Takes, Sends, SmallStep, Tick, Begin, Finish, Take, Send, IsFirst}
use Rattle.protocol_laws.specs.Knowledge.{NoEndIsDropped}
use Rattle.protocol_laws.proofs.Rising.{of_append, last_least, over-over, rising_split}
use Rattle.protocol_laws.proofs.KnownRecords.{cover_below}
use Rattle.protocol_laws.proofs.Frames.{Extends, Fits, honest_after, honest_own}
use Rattle.protocol_laws.proofs.Releases.{honest_letter}
use Rattle.protocol_laws.proofs.Takings.{HasTaken, nothing_wanted, taken_part, taken_all}

pub honest_first : (w : Cluster) → IsFirst w → Honest w
honest_first w f = record {
  table = λ i j k. let none : w.tab i j k ≡ 0 = f.tab i j k in omega arith;
  row = λ i k. let none : w.tab i i k ≡ 0 = f.tab i i k in omega arith;
  rises = λ k. subst (λ l. Rising 0 (of k l)) (sym (f.log k)) tt;
  last = λ k. let low : 0 ≤ w.tab k k k = omega arith in subst (λ l. last_own 0 (of k l) ≤ w.tab k k k) (sym (f.log k)) low;
  exact = λ i k. ap (of k) (f.log i) ∙ sym (ap (λ l. upto (w.tab i i k) (of k l)) (f.log k));
  causal = λ i x r here before. absurd (subst (λ l. Mem r l) (f.log i) here);
  sent = λ m there. absurd (subst (λ l. Mem m l) f.sent there);
}

module _ (w v : Cluster) (s : ℕ) (m : Letter) (h : Honest w) (laws : (k : ℕ) → OrderLaws k (w.log k)) (t : Takes w v s m) where
  abbrev letter : HonestLetter w m
  letter = h.sent m t.came

  pub taken_whole : HasTaken w s m.records (taken w s m)
  taken_whole = taken_all w h (λ k. (laws k).each) s m letter t.here

  taken_clock : last_own (w.tab s s s) (of s taken_whole.more) ≡ v.tab s s s
  taken_clock = taken_whole.clock ∙ sym t.clock

  taken_tab : (a b : ℕ) → w.tab s a b ≤ v.tab s a b
  taken_tab a b = by_site (cases_eq a s) (cases_eq b s)
    where
      by_site : (a ≡ s) ⊎ (a ≡ s → ⊥) → (b ≡ s) ⊎ (b ≡ s → ⊥) → w.tab s a b ≤ v.tab s a b
      by_site (inl here) (inl there) =
          let low : w.tab s s s ≤ last_own (w.tab s s s) (of s taken_whole.more) = last_least (w.tab s s s) (of s taken_whole.more) taken_whole.rises in
          let clock : w.tab s s s ≤ v.tab s s s = subst (λ n. w.tab s s s ≤ n) taken_clock low in
          subst (λ x. w.tab s x b ≤ v.tab s x b) (sym here) (subst (λ x. w.tab s s x ≤ v.tab s s x) (sym there) clock)
      by_site (inl here) (inr apart) =
          let merged : v.tab s s b ≡ max (w.tab s s b) (m.cover b) = t.row b apart in
          let row : w.tab s s b ≤ v.tab s s b = omega arith in
          subst (λ x. w.tab s x b ≤ v.tab s x b) (sym here) row
      by_site (inr apart) there = let merged : v.tab s a b ≡ max (w.tab s a b) (m.table a b) = t.rows a b apart in omega arith

  pub taken_extends : Extends w v s taken_whole.more
  taken_extends = record {
    other_log = t.other_log;
    other_tab = t.other_tab;
    log = t.log ∙ taken_whole.grown;
    tab = taken_tab;
    sent = λ x there. inl (t.sent x there);
    rises = taken_whole.rises;
    last = subst (λ n. last_own (w.tab s s s) (of s taken_whole.more) ≤ n) taken_clock (let same : last_own (w.tab s s s) (of s taken_whole.more) ≤ last_own (w.tab s s s) (of s taken_whole.more) = omega arith in same);
  }

  -- up to the row, and from there up to the cover
  taken_exact : (k : ℕ) → k ≢ s → of k (w.log s ++ taken_whole.more) ≡ upto (v.tab s s k) (of k (w.log k))
  taken_exact k apart =
      of_append k (w.log s) taken_whole.more
      ∙ ap (λ l. of k (w.log s) ++ l) (taken_whole.foreign k apart ∙ ap (over (w.tab s s k)) (letter.exact k)
      ∙ ap (λ j. over (w.tab s s k) (over (m.table j k) (upto (m.cover k) (of k (w.log k))))) t.here
      ∙ over-over (m.table s k) (w.tab s s k) (upto (m.cover k) (of k (w.log k))) (letter.table s k))
      ∙ ap (λ l. l ++ over (w.tab s s k) (upto (m.cover k) (of k (w.log k)))) (h.exact s k)
      ∙ rising_split 0 (w.tab s s k) (m.cover k) (of k (w.log k)) (h.rises k)
      ∙ ap (λ n. upto n (of k (w.log k))) (sym (t.row k apart))

  taken_fits : Fits w v s taken_whole.more
  taken_fits = record {
    table = λ j k apart.
        let merged : v.tab s j k ≡ max (w.tab s j k) (m.table j k) = t.rows j k apart in
        let old : w.tab s j k ≤ w.tab j j k = h.table s j k in
        let told : m.table j k ≤ w.tab j j k = letter.table j k in
        omega arith;
    row = λ k apart.
        let merged : v.tab s s k ≡ max (w.tab s s k) (m.cover k) = t.row k apart in
        let old : w.tab s s k ≤ w.tab k k k = h.row s k in
        let told : m.cover k ≤ w.tab k k k = cover_below w h m letter k in
        omega arith;
    exact = taken_exact;
    causal = λ x r new apart before. subst (λ l. Before x r l) taken_whole.grown (taken_whole.causal x r new apart before);
  }

  pub honest_taken : Honest v
  honest_taken = honest_after w v s taken_whole.more h taken_extends taken_fits

pub honest_sends : (w v : Cluster) (m : Letter) → Honest w → Sends w v m → Honest v
honest_sends w v m h t = honest_after w v m.sender [] h
    (record {
      other_log = λ i apart. t.same_log i;
      other_tab = λ i a b apart. t.same_tab i a b;
      log = t.same_log m.sender ∙ sym (append-nil (w.log m.sender));
      tab = λ a b. let same : v.tab m.sender a b ≡ w.tab m.sender a b = t.same_tab m.sender a b in omega arith;
      sent = λ x there. by_sent x (t.sent x there);
      rises = tt;
      last = let same : v.tab m.sender m.sender m.sender ≡ w.tab m.sender m.sender m.sender = t.same_tab m.sender m.sender m.sender in
          let low : w.tab m.sender m.sender m.sender ≤ v.tab m.sender m.sender m.sender = omega arith in low;
    })
    (record {
      table = λ j k apart.
          let same : v.tab m.sender j k ≡ w.tab m.sender j k = t.same_tab m.sender j k in
          let low : w.tab m.sender j k ≤ w.tab j j k = h.table m.sender j k in
          omega arith;
      row = λ k apart.
          let same : v.tab m.sender m.sender k ≡ w.tab m.sender m.sender k = t.same_tab m.sender m.sender k in
          let low : w.tab m.sender m.sender k ≤ w.tab k k k = h.row m.sender k in
          omega arith;
      exact = λ k apart.
          ap (of k) (append-nil (w.log m.sender)) ∙ h.exact m.sender k ∙ ap (λ n. upto n (of k (w.log k))) (sym (t.same_tab m.sender m.sender k));
      causal = λ x r none apart before. absurd none;
    })
  where
    by_sent : (x : Letter) → Mem x w.sent ⊎ (x ≡ m) → Mem x w.sent ⊎ HonestLetter w x
    by_sent x (inl old) = inl old
    by_sent x (inr same) = inr (subst (λ y. HonestLetter w y) (sym same) (honest_letter w m h t.letter))

pub honest_begins : (w v : Cluster) (s : ℕ) (p : Transaction) → Honest w → Begins w v s p → Honest v
honest_begins w v s p h b = honest_own w v s (Prepare p ∷ []) [] h b.own own (b.above, tt) last
  where
    own : (r : Record) → (Prepare p ≡ r) ⊎ ⊥ → origin r ≡ s
    own r (inl same) = ap origin (sym same) ∙ b.here
    own r (inr none) = absurd none

    last : p.id.time ≤ v.tab s s s
    last = let clock : v.tab s s s ≡ p.id.time = b.clock in omega arith

pub honest_commits : (plan : PlanData) (w v : Cluster) (s : ℕ) (p : Transaction) → Honest w → Commits plan w v s p → Honest v
honest_commits plan w v s p h c =
    honest_own w v s (Commit p.id (w.tab s s s + 1) ∷ []) (event_at (w.tab s s s + 1) p ∷ []) h c.own own (above, tt) last
  where
    own : (r : Record) → (Commit p.id (w.tab s s s + 1) ≡ r) ⊎ ⊥ → origin r ≡ s
    own r (inl same) = ap origin (sym same) ∙ c.here
    own r (inr none) = absurd none

    above : w.tab s s s < w.tab s s s + 1
    above = omega arith

    last : w.tab s s s + 1 ≤ v.tab s s s
    last = let clock : v.tab s s s ≡ w.tab s s s + 1 = c.clock in omega arith

pub honest_step : (plan : PlanData) (w v : Cluster) → Honest w → ((k : ℕ) → OrderLaws k (w.log k)) → SmallStep plan w v → Honest v
honest_step plan w v h laws (Tick s low o) = honest_own w v s [] [] h o (λ r none. absurd none) tt (o.moves.tab s s)
honest_step plan w v h laws (Begin s low p b) = honest_begins w v s p h b
honest_step plan w v h laws (Finish s low p c) = honest_commits plan w v s p h c
honest_step plan w v h laws (Take s low m t) = honest_taken w v s m h laws t
honest_step plan w v h laws (Send m low t) = honest_sends w v m h t

pub no_end_is_dropped : (w : Cluster) → Honest w → ((k : ℕ) → OrderLaws k (w.log k)) → NoEndIsDropped w
no_end_is_dropped w h laws s m came here done rest r id e its new =
    let parts = or_parts (nat_eq (origin r) s) (nat_le (own_time r) (w.tab s s (origin r))) new in
    nothing_wanted w h (λ k. (laws k).each) s m (h.sent m came) here done rest r
    (take_all s (w.tab s s) (record { log = w.log s; clock = w.tab s s s }) done) id e
    (taken_part w h (λ k. (laws k).each) s m (h.sent m came) here done (r ∷ rest) e)
    (eqb-false (origin r) s parts.0) (leb-false (own_time r) (w.tab s s (origin r)) parts.1) its
