-- What a site has for another one is an honest message, whatever the greatest number of its records.
use Rattle.std.proofs.Common.{◌≡◌, ◌∙◌, ap, refl, sym, subst, ℕ, ◌-◌, ◌<◌, ◌≤◌, true, nat_eq, nat_lt, nat_le, ◌⊎◌, inl, inr, Option, Some, None, List, ◌∷◌, ◌++◌, take, drop, find, eqb-true, arith}
use Rattle.std.proofs.lemmas.List.{take-append-drop, append-nil}
use Rattle.std.proofs.lemmas.Bool.{cases_lt, lt-ltb}
use Rattle.helios_model.specs.declared.records.Record.{Record}
use Rattle.helios_model.specs.Limits.{most_records}
use Rattle.helios_model.specs.Log.{origin, own_time}
use Rattle.helios_model.specs.Exchange.{due, is_due, cover_at, covered}
use Rattle.helios_model.specs.Sequences.{Mem, Before, Rising, of, upto, over}
use Rattle.protocol_laws.specs.Clusters.{Letter, Cluster, HonestLetter, Honest}
use Rattle.protocol_laws.specs.SmallSteps.{IsLetter}
use Rattle.protocol_laws.proofs.Sequences.{mem_left, mem_right, mem_of_filter, before_cases, before_filter, filter_swap, find_none_filter, find_some_filter}
use Rattle.protocol_laws.proofs.Rising.{upto_mem, over_mem, of_append, rising_filter, upto-upto, upto-over, rising_cut, records_order}

module _ (w : Cluster) (i j limit : ℕ) (h : Honest w) where
  abbrev first : List Record
  first = take limit (due (w.tab i j) (w.log i))

  abbrev left : List Record
  left = drop limit (due (w.tab i j) (w.log i))

  whole : first ++ left ≡ due (w.tab i j) (w.log i)
  whole = take-append-drop limit (due (w.tab i j) (w.log i))

  -- the due records of one origin
  abbrev due_of : ℕ → List Record
  due_of k = over (w.tab i j k) (upto (w.tab i i k) (of k (w.log k)))

  due_is : (k : ℕ) → of k first ++ of k left ≡ due_of k
  due_is k =
      sym (of_append k first left) ∙ ap (of k) whole
      ∙ filter_swap (λ r. nat_eq (origin r) k) (λ r. nat_lt (w.tab i j k) (own_time r)) (is_due (w.tab i j)) (w.log i)
      (λ r its. ap (λ a. nat_lt (w.tab i j a) (own_time r)) (eqb-true (origin r) k its))
      ∙ ap (over (w.tab i j k)) (h.exact i k)

  due_rises : (k : ℕ) → Rising 0 (due_of k)
  due_rises k =
      rising_filter (λ r. nat_lt (w.tab i j k) (own_time r)) 0 (upto (w.tab i i k) (of k (w.log k)))
      (rising_filter (λ r. nat_le (own_time r) (w.tab i i k)) 0 (of k (w.log k)) (h.rises k))

  parts_rise : (k : ℕ) → Rising 0 (of k (first ++ left))
  parts_rise k = subst (λ l. Rising 0 l) (sym (of_append k first left ∙ due_is k)) (due_rises k)

  -- what a message says of one origin: its cover, and that its records are those due up to the cover
  record Covers (k cover : ℕ) : Type 0 where
    within : cover ≤ w.tab i i k
    exact : of k first ≡ over (w.tab i j k) (upto cover (of k (w.log k)))

  cut_covers : (k : ℕ) (r : Record) (rest : List Record) → of k left ≡ r ∷ rest → Covers k (own_time r - 1)
  cut_covers k r rest e =
      let joined : of k first ++ r ∷ rest ≡ due_of k = ap (λ l. of k first ++ l) (sym e) ∙ due_is k in
      let there : Mem r (due_of k) = subst (λ l. Mem r l) joined (mem_right r (of k first) (r ∷ rest) (inl refl)) in
      let known : own_time r ≤ w.tab i i k =
      (upto_mem (w.tab i i k) r (of k (w.log k)) (over_mem (w.tab i j k) r (upto (w.tab i i k) (of k (w.log k))) there).0).1 in
      let cut : of k first ≡ upto (own_time r - 1) (of k first ++ r ∷ rest) =
      rising_cut 0 r (of k first) rest (subst (λ l. Rising 0 l) (sym joined) (due_rises k)) in
      record {
        within = omega arith;
        exact = cut ∙ ap (upto (own_time r - 1)) joined ∙ upto-over (own_time r - 1) (w.tab i j k) (upto (w.tab i i k) (of k (w.log k)))
            ∙ ap (over (w.tab i j k)) (upto-upto (own_time r - 1) (w.tab i i k) (of k (w.log k)) (omega arith));
      }

  covers : (k : ℕ) → Covers k (cover_at (w.tab i i) left k)
  covers k = by_find (find (λ r. nat_eq (origin r) k) left) refl
    where
      by_find : (o : Option Record) → find (λ r. nat_eq (origin r) k) left ≡ o → Covers k (covered (w.tab i i k) o)
      by_find None look = record {
        within = omega arith;
        exact = sym (append-nil (of k first)) ∙ ap (λ l. of k first ++ l) (sym (find_none_filter (λ r. nat_eq (origin r) k) left look)) ∙ due_is k;
      }
      by_find (Some r) look =
          let found = find_some_filter (λ x. nat_eq (origin x) k) left r look in
          cut_covers k r found.0 found.1

  first_causal : (x r : Record) → Mem r first → Before x r (w.log (origin r)) → Before x r first ⊎ (own_time x ≤ w.tab i j (origin x))
  first_causal x r here before = by_time (cases_lt (w.tab i j (origin x)) (own_time x))
    where
      in_due : Mem r (w.log i) × (is_due (w.tab i j) r ≡ true)
      in_due = mem_of_filter (is_due (w.tab i j)) r (w.log i) (subst (λ l. Mem r l) whole (mem_left r first left here))

      by_part : Before x r first ⊎ (Mem r left × (Mem x first ⊎ Before x r left)) → Before x r first
      by_part (inl both) = both
      by_part (inr rest) =
          let less : own_time r < own_time r = records_order r r first left parts_rise here rest.0 refl in
          absurd (omega arith)

      by_time : (w.tab i j (origin x) < own_time x) ⊎ (own_time x ≤ w.tab i j (origin x)) → Before x r first ⊎ (own_time x ≤ w.tab i j (origin x))
      by_time (inl above) =
          let there : Before x r (due (w.tab i j) (w.log i)) =
          before_filter (is_due (w.tab i j)) x r (w.log i) (lt-ltb (w.tab i j (origin x)) (own_time x) above) in_due.1 (h.causal i x r in_due.0 before) in
          inl (by_part (before_cases x r first left (subst (λ l. Before x r l) (sym whole) there)))
      by_time (inr known) = inr known

pub honest_letter : (w : Cluster) (m : Letter) → Honest w → IsLetter w m → HonestLetter w m
honest_letter w m h l = record {
  table = λ a b.
      let same : m.table a b ≡ w.tab m.sender a b = l.table a b in
      let low : w.tab m.sender a b ≤ w.tab a a b = h.table m.sender a b in
      omega arith;
  cover = λ k. subst (λ t. t ≤ w.tab m.sender m.sender k) (sym (l.cover k)) (covers w m.sender m.receiver most_records h k).within;
  exact = λ k.
      ap (of k) l.records ∙ (covers w m.sender m.receiver most_records h k).exact
      ∙ ap (λ t. over t (upto (cover_at (w.tab m.sender m.sender) (left w m.sender m.receiver most_records h) k) (of k (w.log k)))) (sym (l.table m.receiver k))
      ∙ ap (λ t. over (m.table m.receiver k) (upto t (of k (w.log k)))) (sym (l.cover k));
  causal = λ x r here before.
      told x r (first_causal w m.sender m.receiver most_records h x r (subst (λ rs. Mem r rs) l.records here) before);
}
  where
    told : (x r : Record) → Before x r (first w m.sender m.receiver most_records h) ⊎ (own_time x ≤ w.tab m.sender m.receiver (origin x))
        → Before x r m.records ⊎ (own_time x ≤ m.table m.receiver (origin x))
    told x r (inl both) = inl (subst (λ rs. Before x r rs) (sym l.records) both)
    told x r (inr known) = inr (subst (λ t. own_time x ≤ t) (sym (l.table m.receiver (origin x))) known)
