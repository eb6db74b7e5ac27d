-- Honest knowledge where one site's log and times have grown.
use Rattle.std.proofs.Common.{◌≡◌, ◌≢◌, ◌∙◌, ap, sym, subst, ℕ, ◌<◌, ◌≤◌, ◌⊎◌, inl, inr, List, ◌++◌, arith}
use Rattle.std.proofs.lemmas.List.{append-nil}
use Rattle.std.proofs.lemmas.Bool.{cases_eq}
use Rattle.helios_model.specs.declared.records.Record.{Record}
use Rattle.helios_model.specs.declared.records.CommitEvent.{CommitEvent}
use Rattle.helios_model.specs.Log.{origin, own_time}
use Rattle.helios_model.specs.Sequences.{Mem, Before, Rising, last_own, of, upto, over}
use Rattle.protocol_laws.specs.Clusters.{Letter, Cluster, HonestLetter, Honest}
use Rattle.protocol_laws.specs.SmallSteps.{OwnMoves}
use Rattle.protocol_laws.proofs.Sequences.{mem_cases, before_left, before_cases}
use Rattle.protocol_laws.proofs.Rising.{mem_of, of_append, of_none, of_all, rising_lower, rising_above, rising_join, last_own-append, last_higher, upto_all, upto_grown}
use Rattle.protocol_laws.proofs.KnownRecords.{row_below, letter_home, cover_below}

-- a site's log grows at its end, its times do not fall, its own new records rise above its clock, and what is sent was sent
-- before, or is honest
pub record Extends (w v : Cluster) (s : ℕ) (more : List Record) : Type 0 where
  pub other_log : (i : ℕ) → i ≢ s → v.log i ≡ w.log i
  pub other_tab : (i a b : ℕ) → i ≢ s → v.tab i a b ≡ w.tab i a b
  pub log : v.log s ≡ w.log s ++ more
  pub tab : (a b : ℕ) → w.tab s a b ≤ v.tab s a b
  pub sent : (m : Letter) → Mem m v.sent → Mem m w.sent ⊎ HonestLetter w m
  pub rises : Rising (w.tab s s s) (of s more)
  pub last : last_own (w.tab s s s) (of s more) ≤ v.tab s s s

-- what is new at the site of the other sites is so
pub record Fits (w v : Cluster) (s : ℕ) (more : List Record) : Type 0 where
  pub table : (j k : ℕ) → j ≢ s → v.tab s j k ≤ w.tab j j k
  pub row : (k : ℕ) → k ≢ s → v.tab s s k ≤ w.tab k k k
  pub exact : (k : ℕ) → k ≢ s → of k (w.log s ++ more) ≡ upto (v.tab s s k) (of k (w.log k))
  pub causal : (x r : Record) → Mem r more → origin r ≢ s → Before x r (w.log (origin r)) → Before x r (w.log s ++ more)

module _ (w v : Cluster) (s : ℕ) (more : List Record) (h : Honest w) (e : Extends w v s more) (f : Fits w v s more) where
  times_grow : (i a b : ℕ) → w.tab i a b ≤ v.tab i a b
  times_grow i a b = by_site (cases_eq i s)
    where
      by_site : (i ≡ s) ⊎ (i ≡ s → ⊥) → w.tab i a b ≤ v.tab i a b
      by_site (inl same) = subst (λ j. w.tab j a b ≤ v.tab j a b) (sym same) (e.tab a b)
      by_site (inr apart) = let kept : v.tab i a b ≡ w.tab i a b = e.other_tab i a b apart in omega arith

  -- a new own record is above every time that was known of the site
  fresh : (r : Record) (time : ℕ) → Mem r more → origin r ≡ s → own_time r ≤ time → time ≤ w.tab s s s → ⊥
  fresh r time new own low below =
      let above : w.tab s s s < own_time r = rising_above (w.tab s s s) r (of s more) e.rises (mem_of s r more new own) in
      omega arith

  -- up to a time that was known of the site, its records are the same as before
  same_upto : (time : ℕ) → time ≤ w.tab s s s → upto time (of s (v.log s)) ≡ upto time (of s (w.log s))
  same_upto time below =
      ap (λ l. upto time (of s l)) e.log ∙ ap (upto time) (of_append s (w.log s) more)
      ∙ upto_grown (w.tab s s s) time (of s (w.log s)) (of s more) e.rises below

  after_table : (i j k : ℕ) → v.tab i j k ≤ v.tab j j k
  after_table i j k = by_site (cases_eq i s) (cases_eq j s)
    where
      by_site : (i ≡ s) ⊎ (i ≡ s → ⊥) → (j ≡ s) ⊎ (j ≡ s → ⊥) → v.tab i j k ≤ v.tab j j k
      by_site (inl here) (inl there) =
          let same : v.tab i j k ≡ v.tab j j k = ap (λ a. v.tab a j k) (here ∙ sym there) in
          omega arith
      by_site (inl here) (inr apart) =
          let same : v.tab i j k ≡ v.tab s j k = ap (λ a. v.tab a j k) here in
          let low : v.tab s j k ≤ w.tab j j k = f.table j k apart in
          let grown : w.tab j j k ≤ v.tab j j k = times_grow j j k in
          omega arith
      by_site (inr apart) there =
          let same : v.tab i j k ≡ w.tab i j k = e.other_tab i j k apart in
          let low : w.tab i j k ≤ w.tab j j k = h.table i j k in
          let grown : w.tab j j k ≤ v.tab j j k = times_grow j j k in
          omega arith

  after_row : (i k : ℕ) → v.tab i i k ≤ v.tab k k k
  after_row i k = by_site (cases_eq i s) (cases_eq k s)
    where
      by_site : (i ≡ s) ⊎ (i ≡ s → ⊥) → (k ≡ s) ⊎ (k ≡ s → ⊥) → v.tab i i k ≤ v.tab k k k
      by_site (inl here) (inl there) =
          let same : v.tab i i k ≡ v.tab k k k = ap (λ a. v.tab a a k) (here ∙ sym there) in
          omega arith
      by_site (inl here) (inr apart) =
          let same : v.tab i i k ≡ v.tab s s k = ap (λ a. v.tab a a k) here in
          let low : v.tab s s k ≤ w.tab k k k = f.row k apart in
          let grown : w.tab k k k ≤ v.tab k k k = times_grow k k k in
          omega arith
      by_site (inr apart) there =
          let same : v.tab i i k ≡ w.tab i i k = e.other_tab i i k apart in
          let low : w.tab i i k ≤ w.tab k k k = h.row i k in
          let grown : w.tab k k k ≤ v.tab k k k = times_grow k k k in
          omega arith

  own_is : of s (v.log s) ≡ of s (w.log s) ++ of s more
  own_is = ap (of s) e.log ∙ of_append s (w.log s) more

  own_rises : Rising 0 (of s (v.log s))
  own_rises = subst (λ l. Rising 0 l) (sym own_is)
      (rising_join 0 (of s (w.log s)) (of s more) (h.rises s) (rising_lower (last_own 0 (of s (w.log s))) (w.tab s s s) (of s more) (h.last s) e.rises))

  own_last : last_own 0 (of s (v.log s)) ≤ v.tab s s s
  own_last =
      let whole : last_own 0 (of s (v.log s)) ≡ last_own (last_own 0 (of s (w.log s))) (of s more) =
      ap (last_own 0) own_is ∙ last_own-append 0 (of s (w.log s)) (of s more) in
      let low : last_own (last_own 0 (of s (w.log s))) (of s more) ≤ last_own (w.tab s s s) (of s more) =
      last_higher (last_own 0 (of s (w.log s))) (w.tab s s s) (of s more) (h.last s) in
      let high : last_own (w.tab s s s) (of s more) ≤ v.tab s s s = e.last in
      omega arith

  after_rises : (k : ℕ) → Rising 0 (of k (v.log k))
  after_rises k = by_site (cases_eq k s)
    where
      by_site : (k ≡ s) ⊎ (k ≡ s → ⊥) → Rising 0 (of k (v.log k))
      by_site (inl same) = subst (λ j. Rising 0 (of j (v.log j))) (sym same) own_rises
      by_site (inr apart) = subst (λ l. Rising 0 (of k l)) (sym (e.other_log k apart)) (h.rises k)

  after_last : (k : ℕ) → last_own 0 (of k (v.log k)) ≤ v.tab k k k
  after_last k = by_site (cases_eq k s)
    where
      by_site : (k ≡ s) ⊎ (k ≡ s → ⊥) → last_own 0 (of k (v.log k)) ≤ v.tab k k k
      by_site (inl same) = subst (λ j. last_own 0 (of j (v.log j)) ≤ v.tab j j j) (sym same) own_last
      by_site (inr apart) =
          let logs : last_own 0 (of k (v.log k)) ≡ last_own 0 (of k (w.log k)) = ap (λ l. last_own 0 (of k l)) (e.other_log k apart) in
          let low : last_own 0 (of k (w.log k)) ≤ w.tab k k k = h.last k in
          let grown : w.tab k k k ≤ v.tab k k k = times_grow k k k in
          omega arith

  exact_here : (k : ℕ) → (k ≡ s) ⊎ (k ≡ s → ⊥) → of k (v.log s) ≡ upto (v.tab s s k) (of k (v.log k))
  exact_here k (inl same) = subst (λ j. of j (v.log s) ≡ upto (v.tab s s j) (of j (v.log j))) (sym same)
      (sym (upto_all 0 (v.tab s s s) (of s (v.log s)) own_rises own_last))
  exact_here k (inr apart) = ap (of k) e.log ∙ f.exact k apart ∙ ap (λ l. upto (v.tab s s k) (of k l)) (sym (e.other_log k apart))

  exact_there : (i k : ℕ) → i ≢ s → (k ≡ s) ⊎ (k ≡ s → ⊥) → of k (w.log i) ≡ upto (w.tab i i k) (of k (v.log k))
  exact_there i k away (inl same) = subst (λ j. of j (w.log i) ≡ upto (w.tab i i j) (of j (v.log j))) (sym same)
      (h.exact i s ∙ sym (same_upto (w.tab i i s) (h.row i s)))
  exact_there i k away (inr apart) = h.exact i k ∙ ap (λ l. upto (w.tab i i k) (of k l)) (sym (e.other_log k apart))

  after_exact : (i k : ℕ) → of k (v.log i) ≡ upto (v.tab i i k) (of k (v.log k))
  after_exact i k = by_site (cases_eq i s)
    where
      by_site : (i ≡ s) ⊎ (i ≡ s → ⊥) → of k (v.log i) ≡ upto (v.tab i i k) (of k (v.log k))
      by_site (inl same) = subst (λ j. of k (v.log j) ≡ upto (v.tab j j k) (of k (v.log k))) (sym same) (exact_here k (cases_eq k s))
      by_site (inr apart) = ap (of k) (e.other_log i apart) ∙ exact_there i k apart (cases_eq k s)
          ∙ ap (λ t. upto t (of k (v.log k))) (sym (e.other_tab i i k apart))

  -- what stands before a record at its origin stood before it there
  stood_before : (x r : Record) (time : ℕ) → own_time r ≤ time → (origin r ≡ s → time ≤ w.tab s s s) → Before x r (v.log (origin r)) → Before x r (w.log (origin r))
  stood_before x r time low below there = by_site (cases_eq (origin r) s)
    where
      by_part : origin r ≡ s → Before x r (w.log s) ⊎ (Mem r more × (Mem x (w.log s) ⊎ Before x r more)) → Before x r (w.log (origin r))
      by_part own (inl before) = subst (λ j. Before x r (w.log j)) (sym own) before
      by_part own (inr new) = absurd (fresh r time new.0 own low (below own))

      by_site : (origin r ≡ s) ⊎ (origin r ≡ s → ⊥) → Before x r (w.log (origin r))
      by_site (inl own) = by_part own (before_cases x r (w.log s) more
          (subst (λ l. Before x r l) (ap v.log own ∙ e.log) there))
      by_site (inr apart) = subst (λ l. Before x r l) (e.other_log (origin r) apart) there

  causal_here : (x r : Record) → Mem r (v.log s) → Before x r (v.log (origin r)) → Before x r (v.log s)
  causal_here x r here there = by_site (cases_eq (origin r) s)
    where
      by_part : (origin r ≡ s → ⊥) → Mem r (w.log s) ⊎ Mem r more → Before x r (w.log s ++ more)
      by_part apart (inl old) = before_left x r (w.log s) more (h.causal s x r old (subst (λ l. Before x r l) (e.other_log (origin r) apart) there))
      by_part apart (inr new) = f.causal x r new apart (subst (λ l. Before x r l) (e.other_log (origin r) apart) there)

      by_site : (origin r ≡ s) ⊎ (origin r ≡ s → ⊥) → Before x r (v.log s)
      by_site (inl own) = subst (λ j. Before x r (v.log j)) own there
      by_site (inr apart) = subst (λ l. Before x r l) (sym e.log) (by_part apart (mem_cases r (w.log s) more (subst (λ l. Mem r l) e.log here)))

  after_causal : (i : ℕ) (x r : Record) → Mem r (v.log i) → Before x r (v.log (origin r)) → Before x r (v.log i)
  after_causal i x r here there = by_site (cases_eq i s)
    where
      by_site : (i ≡ s) ⊎ (i ≡ s → ⊥) → Before x r (v.log i)
      by_site (inl same) = subst (λ j. Before x r (v.log j)) (sym same) (causal_here x r (subst (λ j. Mem r (v.log j)) same here) there)
      by_site (inr apart) =
          let old : Mem r (w.log i) = subst (λ l. Mem r l) (e.other_log i apart) here in
          subst (λ l. Before x r l) (sym (e.other_log i apart))
          (h.causal i x r old (stood_before x r (w.tab i i (origin r)) (row_below w h i r old) (λ own. subst (λ k. w.tab i i k ≤ w.tab s s s) (sym own) (h.row i s)) there))

  after_letter : (m : Letter) → HonestLetter w m → HonestLetter v m
  after_letter m l = record {
    table = λ a b.
        let low : m.table a b ≤ w.tab a a b = l.table a b in
        let grown : w.tab a a b ≤ v.tab a a b = times_grow a a b in
        omega arith;
    cover = λ k.
        let low : m.cover k ≤ w.tab m.sender m.sender k = l.cover k in
        let grown : w.tab m.sender m.sender k ≤ v.tab m.sender m.sender k = times_grow m.sender m.sender k in
        omega arith;
    exact = λ k. by_site k (cases_eq k s);
    causal = λ x r here there.
        l.causal x r here (stood_before x r (m.cover (origin r)) (letter_home w m l r here).within
        (λ own. subst (λ j. m.cover (origin r) ≤ w.tab j j j) own (cover_below w h m l (origin r))) there);
  }
    where
      by_site : (k : ℕ) → (k ≡ s) ⊎ (k ≡ s → ⊥) → of k m.records ≡ over (m.table m.receiver k) (upto (m.cover k) (of k (v.log k)))
      by_site k (inl same) = subst (λ j. of j m.records ≡ over (m.table m.receiver j) (upto (m.cover j) (of j (v.log j)))) (sym same)
          (l.exact s ∙ ap (over (m.table m.receiver s)) (sym (same_upto (m.cover s) (cover_below w h m l s))))
      by_site k (inr apart) = l.exact k ∙ ap (λ l. over (m.table m.receiver k) (upto (m.cover k) (of k l))) (sym (e.other_log k apart))

  by_sent : (m : Letter) → Mem m w.sent ⊎ HonestLetter w m → HonestLetter v m
  by_sent m (inl old) = after_letter m (h.sent m old)
  by_sent m (inr new) = after_letter m new

  pub honest_after : Honest v
  honest_after = record {
    table = after_table;
    row = after_row;
    rises = after_rises;
    last = after_last;
    exact = after_exact;
    causal = after_causal;
    sent = λ m there. by_sent m (e.sent m there);
  }

-- the site's own records alone are new, each above its clock, which is at least the last one's time
pub honest_own : (w v : Cluster) (s : ℕ) (more : List Record) (events : List CommitEvent) → Honest w → OwnMoves w v s more events
    → ((r : Record) → Mem r more → origin r ≡ s) → Rising (w.tab s s s) more → last_own (w.tab s s s) more ≤ v.tab s s s → Honest v
honest_own w v s more events h o own rises last = honest_after w v s more h
    (record {
      other_log = o.moves.other_log;
      other_tab = o.moves.other_tab;
      log = o.moves.log;
      tab = o.moves.tab;
      sent = λ m there. inl (o.sent m there);
      rises = subst (λ l. Rising (w.tab s s s) l) (sym (of_all s more own)) rises;
      last = subst (λ l. last_own (w.tab s s s) l ≤ v.tab s s s) (sym (of_all s more own)) last;
    })
    (record {
      table = λ j k apart.
          let same : v.tab s j k ≡ w.tab s j k = o.others j k (inl apart) in
          let low : w.tab s j k ≤ w.tab j j k = h.table s j k in
          omega arith;
      row = λ k apart.
          let same : v.tab s s k ≡ w.tab s s k = o.others s k (inr apart) in
          let low : w.tab s s k ≤ w.tab k k k = h.row s k in
          omega arith;
      exact = λ k apart.
          of_append k (w.log s) more ∙ ap (λ l. of k (w.log s) ++ l) (of_none k more (λ r there its. apart (sym its ∙ own r there)))
          ∙ append-nil (of k (w.log s)) ∙ h.exact s k ∙ ap (λ t. upto t (of k (w.log k))) (sym (o.others s k (inr apart)));
      causal = λ x r new apart before. absurd (apart (own r new));
    })
