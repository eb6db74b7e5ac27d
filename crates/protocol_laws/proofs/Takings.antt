-- A site takes an honest message's records one by one: what its log and clock become, and that no Commit or Abort lacks its Prepare.
use Rattle.std.proofs.Common.{◌≡◌, ◌≢◌, ◌∙◌, ap, refl, sym, subst, ℕ, ◌+◌, ◌<◌, ◌≤◌, true, false, ◌⊎◌, inl, inr, List, [], ◌∷◌, ◌++◌, nat_eq, nat_le, nat_lt, fold, filter, Contains, append_assoc, eqb-true, arith}
use Rattle.std.proofs.lemmas.List.{append-nil}
use Rattle.std.proofs.lemmas.Bool.{cases_Bool, cases_eq, or_cases, or_parts, eqb-false, leb-true, leb-false, lt-ltb, le-ltb, cond-true, cond-false, false_from_ne_true}
use Rattle.helios_model.specs.declared.ids.TxnId.{TxnId}
use Rattle.helios_model.specs.declared.records.Record.{Record}
use Rattle.helios_model.specs.declared.records.Record.TheVariants.{Prepare, Commit, Abort}
use Rattle.helios_model.specs.Ids.{same_id}
use Rattle.helios_model.specs.Transactions.{Transaction, conflict}
use Rattle.helios_model.specs.Log.{origin, own_time, ends, finished, is_own, prepares, unfinished}
use Rattle.helios_model.specs.Exchange.{Intake, with_taken, is_passed, is_unfinished, clashing, abort_one, take_new, take_one, take_all}
use Rattle.protocol_laws.specs.Shapes.{EachBehind}
use Rattle.protocol_laws.specs.Order.{IsLawful}
use Rattle.helios_model.specs.Sequences.{Mem, Before, Rising, last_own, of, over}
use Rattle.protocol_laws.specs.Clusters.{Letter, Cluster, HonestLetter, Honest}
use Rattle.protocol_laws.specs.SmallSteps.{taken}
use Rattle.protocol_laws.proofs.Lists.{any_from, some_of}
use Rattle.protocol_laws.proofs.Ids.{same_id_of, same_id_itself}
use Rattle.protocol_laws.proofs.OneMore.{prepare_listed, unfinished_has}
use Rattle.protocol_laws.proofs.Sequences.{mem_left, mem_right, mem_cases, mem_from_contains, contains_from_mem, mem_of_cut, mem_of_map, mem_of_filter, before_left, before_first, before_second, before_across, before_cases, filter_yes, filter_no}
use Rattle.protocol_laws.proofs.Rising.{mem_of, of_mem, over_mem, over_append, of_more, of_more_other, rising_join, last_own-append, records_order}
use Rattle.protocol_laws.proofs.KnownRecords.{home, known_here, letter_home, letter_rises}
use Rattle.protocol_laws.proofs.LogEnds.{ended_origin, prepared_before, IsPreparedBefore, one_end}

abbrev pub IsAbort : Record → Type 0
IsAbort (Prepare p) = ⊥
IsAbort (Commit id time) = ⊥
IsAbort (Abort id time cause) = Unit {0}

-- a site's log and clock after a part of a message: of the other sites it took exactly what was above its row, of its own
-- there are new Aborts, which rise from its clock to the new clock; it has all of the part, with what stands before each
-- record at its origin before it
pub record HasTaken (w : Cluster) (s : ℕ) (done : List Record) (a : Intake) : Type 0 where
  pub more : List Record
  pub grown : a.log ≡ w.log s ++ more
  pub foreign : (k : ℕ) → k ≢ s → of k more ≡ over (w.tab s s k) (of k done)
  pub aborts : (r : Record) → Mem r more → origin r ≡ s → IsAbort r
  pub rises : Rising (w.tab s s s) (of s more)
  pub clock : last_own (w.tab s s s) (of s more) ≡ a.clock
  pub held : (r : Record) → Mem r done → Mem r a.log
  pub causal : (x r : Record) → Mem r more → origin r ≢ s → Before x r (w.log (origin r)) → Before x r a.log

taken_none : (w : Cluster) (s : ℕ) → HasTaken w s [] (record { log = w.log s; clock = w.tab s s s })
taken_none w s = record {
  more = [];
  grown = sym (append-nil (w.log s));
  foreign = λ k apart. refl;
  aborts = λ r none own. absurd none;
  rises = tt;
  clock = refl;
  held = λ r none. absurd none;
  causal = λ x r none apart before. absurd none;
}

taken_old : (w : Cluster) (s : ℕ) (done : List Record) (a : Intake) (x : Record) → HasTaken w s done a → Mem x (w.log s) → Mem x a.log
taken_old w s done a x t old = subst (λ l. Mem x l) (sym t.grown) (mem_left x (w.log s) t.more old)

-- one more own Abort, at the next time
pub taken_abort : (w : Cluster) (s : ℕ) (done : List Record) (a : Intake) (cause id : TxnId) → id.site ≡ s → HasTaken w s done a
    → HasTaken w s done (abort_one cause a id)
taken_abort w s done a cause id own t = record {
  more = t.more ++ Abort id (a.clock + 1) cause ∷ [];
  grown = ap (λ l. l ++ Abort id (a.clock + 1) cause ∷ []) t.grown ∙ append_assoc (w.log s) t.more (Abort id (a.clock + 1) cause ∷ []);
  foreign = λ k apart. of_more_other k t.more (Abort id (a.clock + 1) cause) (λ its. apart (sym its ∙ own)) ∙ t.foreign k apart;
  aborts = λ r new its. by_abort r its (mem_cases r t.more (Abort id (a.clock + 1) cause ∷ []) new);
  rises = subst (λ l. Rising (w.tab s s s) l) (sym grown_own) (rising_join (w.tab s s s) (of s t.more) (Abort id (a.clock + 1) cause ∷ []) t.rises (above, tt));
  clock = ap (last_own (w.tab s s s)) grown_own ∙ last_own-append (w.tab s s s) (of s t.more) (Abort id (a.clock + 1) cause ∷ []);
  held = λ r there. mem_left r a.log (Abort id (a.clock + 1) cause ∷ []) (t.held r there);
  causal = λ x r new apart before. by_cause x r apart before (mem_cases r t.more (Abort id (a.clock + 1) cause ∷ []) new);
}
  where
    grown_own : of s (t.more ++ Abort id (a.clock + 1) cause ∷ []) ≡ of s t.more ++ Abort id (a.clock + 1) cause ∷ []
    grown_own = of_more s t.more (Abort id (a.clock + 1) cause) own

    above : last_own (w.tab s s s) (of s t.more) < a.clock + 1
    above = let now : last_own (w.tab s s s) (of s t.more) ≡ a.clock = t.clock in omega arith

    by_abort : (r : Record) → origin r ≡ s → Mem r t.more ⊎ ((Abort id (a.clock + 1) cause ≡ r) ⊎ ⊥) → IsAbort r
    by_abort r its (inl old) = t.aborts r old its
    by_abort r its (inr (inl same)) = subst (λ x. IsAbort x) same tt
    by_abort r its (inr (inr none)) = absurd none

    by_cause : (x r : Record) → origin r ≢ s → Before x r (w.log (origin r)) → Mem r t.more ⊎ ((Abort id (a.clock + 1) cause ≡ r) ⊎ ⊥)
        → Before x r (a.log ++ Abort id (a.clock + 1) cause ∷ [])
    by_cause x r apart before (inl old) = before_left x r a.log (Abort id (a.clock + 1) cause ∷ []) (t.causal x r old apart before)
    by_cause x r apart before (inr (inl same)) = absurd (apart (ap origin (sym same) ∙ own))
    by_cause x r apart before (inr (inr none)) = absurd none

pub taken_aborts : (w : Cluster) (s : ℕ) (done : List Record) (a : Intake) (cause : TxnId) (ids : List TxnId) → ((id : TxnId) → Mem id ids → id.site ≡ s)
    → HasTaken w s done a → HasTaken w s done (fold (abort_one cause) a ids)
taken_aborts w s done a cause [] own t = t
taken_aborts w s done a cause (id ∷ ids) own t =
    taken_aborts w s done (abort_one cause a id) cause ids (λ other there. own other (inr there)) (taken_abort w s done a cause id (own id (inl refl)) t)

-- what an arriving transaction aborts is the site's own
pub clashing_own : (s : ℕ) (log : List Record) (p : Transaction) (id : TxnId) → Mem id (clashing s log p) → id.site ≡ s
clashing_own s log p id h =
    let found = mem_of_map (λ q. q.id) id (filter (conflict p) (filter (is_own s) (unfinished log))) h in
    let its = mem_of_filter (is_own s) found.0 (unfinished log) (mem_of_filter (conflict p) found.0 (filter (is_own s) (unfinished log)) found.1).0 in
    ap (λ x. x.site) (sym found.2) ∙ eqb-true found.0.id.site s its.1

module _ (w : Cluster) (h : Honest w) (laws : (k : ℕ) → EachBehind (IsLawful k) (w.log k)) (s : ℕ) (m : Letter) (l : HonestLetter w m) (here : m.receiver ≡ s) where
  -- no record stands twice in the message
  once : (r : Record) (front back : List Record) → m.records ≡ front ++ back → Mem r front → Mem r back → ⊥
  once r front back e first second =
      let less : own_time r < own_time r =
      records_order r r front back (λ k. subst (λ rs. Rising 0 (of k rs)) e (letter_rises w h m l k)) first second refl in
      omega arith

  -- what stands before a record at its origin is there when the record comes
  pub cause_here : (done rest : List Record) (r x : Record) (a : Intake) → m.records ≡ done ++ r ∷ rest → HasTaken w s done a
      → Before x r (w.log (origin r)) → Mem x a.log
  cause_here done rest r x a e t before = by_told (l.causal x r (mem_of_cut r m.records done rest e) before)
    where
      split : m.records ≡ (done ++ r ∷ []) ++ rest
      split = e ∙ sym (append_assoc done (r ∷ []) rest)

      not_again : Mem r rest → ⊥
      not_again again = once r (done ++ r ∷ []) rest split (mem_right r done (r ∷ []) (inl refl)) again

      by_both : Mem x done ⊎ (((r ≡ x) × Mem r rest) ⊎ Before x r rest) → Mem x a.log
      by_both (inl first) = t.held x first
      by_both (inr (inl both)) = absurd (not_again both.1)
      by_both (inr (inr later)) = absurd (not_again (before_second x r rest later))

      by_part : Before x r done ⊎ (Mem r (r ∷ rest) × (Mem x done ⊎ Before x r (r ∷ rest))) → Mem x a.log
      by_part (inl front) = t.held x (before_first x r done front)
      by_part (inr back) = by_both back.1

      known : own_time x ≤ m.table m.receiver (origin x) → own_time x ≤ w.tab s s (origin x)
      known low =
          let told : own_time x ≤ m.table s (origin x) = subst (λ k. own_time x ≤ m.table k (origin x)) here low in
          let row : m.table s (origin x) ≤ w.tab s s (origin x) = l.table s (origin x) in
          omega arith

      by_told : Before x r m.records ⊎ (own_time x ≤ m.table m.receiver (origin x)) → Mem x a.log
      by_told (inl both) = by_part (before_cases x r done (r ∷ rest) (subst (λ rs. Before x r rs) e both))
      by_told (inr low) = taken_old w s done a x t
          (known_here w h s x (home w h (origin r) x (before_first x r (w.log (origin r)) before)).there (known low))

  -- where a Commit or Abort of another site is above the row, its id has no Commit or Abort yet
  unended_yet : (done rest : List Record) (r : Record) (a : Intake) (id : TxnId) → m.records ≡ done ++ r ∷ rest → HasTaken w s done a
      → origin r ≢ s → w.tab s s (origin r) < own_time r → ends id r ≡ true → finished a.log id ≡ false
  unended_yet done rest r a id e t apart above its = false_from_ne_true (finished a.log id) (λ ended. by_found (some_of (ends id) a.log ended))
    where
      -- another one that ends the id is the same record
      same : (f : Record) → Mem f (w.log (origin f)) → ends id f ≡ true → f ≡ r
      same f there other =
          one_end (origin r) (w.log (origin r)) (laws (origin r)) id f r
          (subst (λ k. Mem f (w.log k)) (ended_origin id f other ∙ sym (ended_origin id r its)) there)
          (letter_home w m l r (mem_of_cut r m.records done rest e)).there other its

      in_log : (f : Record) → ends id f ≡ true → Mem f (w.log s) → ⊥
      in_log f other old =
          let at_home = home w h s f old in
          let low : own_time r ≤ w.tab s s (origin r) = subst (λ x. own_time x ≤ w.tab s s (origin x)) (same f at_home.there other) at_home.below in
          omega arith

      in_done : (f : Record) → ends id f ≡ true → Mem f done → ⊥
      in_done f other there =
          let told : Mem f m.records = subst (λ rs. Mem f rs) (sym e) (mem_left f done (r ∷ rest) there) in
          once r done (r ∷ rest) e (subst (λ x. Mem x done) (same f (letter_home w m l f told).there other) there) (inl refl)

      in_more : (f : Record) → ends id f ≡ true → Mem f t.more → ⊥
      in_more f other new =
          let away : origin f ≢ s = λ own. apart (ended_origin id r its ∙ sym (ended_origin id f other) ∙ own) in
          let moved : Mem f (over (w.tab s s (origin f)) (of (origin f) done)) = subst (λ rs. Mem f rs) (t.foreign (origin f) away) (mem_of (origin f) f t.more new refl) in
          in_done f other (of_mem (origin f) f done (over_mem (w.tab s s (origin f)) f (of (origin f) done) moved).0).0

      by_part : (f : Record) → ends id f ≡ true → Mem f (w.log s) ⊎ Mem f t.more → ⊥
      by_part f other (inl old) = in_log f other old
      by_part f other (inr new) = in_more f other new

      by_found : (f : Record) × Contains a.log f × (ends id f ≡ true) → ⊥
      by_found found = by_part found.0 found.2 (mem_cases found.0 (w.log s) t.more (subst (λ rs. Mem found.0 rs) t.grown (mem_from_contains a.log found.0 found.1)))

  -- so its id is unfinished: none is passed over for want of its Prepare
  pub nothing_wanted : (done rest : List Record) (r : Record) (a : Intake) (id : TxnId) → m.records ≡ done ++ r ∷ rest → HasTaken w s done a
      → origin r ≢ s → w.tab s s (origin r) < own_time r → ends id r ≡ true → is_unfinished a.log id ≡ true
  nothing_wanted done rest r a id e t apart above its =
      let told = letter_home w m l r (mem_of_cut r m.records done rest e) in
      let prepared : IsPreparedBefore (w.log (origin r)) id r = prepared_before (origin r) (w.log (origin r)) (laws (origin r)) id r told.there its in
      let there : Mem (Prepare prepared.prepare) a.log = cause_here done rest r (Prepare prepared.prepare) a e t prepared.stands in
      let listed : Contains (prepares a.log) prepared.prepare = prepare_listed a.log prepared.prepare (contains_from_mem a.log (Prepare prepared.prepare) there) in
      let fresh : finished a.log prepared.prepare.id ≡ false = ap (finished a.log) prepared.named ∙ unended_yet done rest r a id e t apart above its in
      any_from (λ p. same_id p.id id) (unfinished a.log) prepared.prepare (unfinished_has a.log prepared.prepare listed fresh)
      (same_id_of prepared.prepare.id id prepared.named)

  -- a record that is passed over is there
  taken_passed : (done rest : List Record) (r : Record) (a : Intake) → m.records ≡ done ++ r ∷ rest → HasTaken w s done a
      → (origin r ≡ s) ⊎ (own_time r ≤ w.tab s s (origin r)) → HasTaken w s (done ++ r ∷ []) a
  taken_passed done rest r a e t passed = record {
    more = t.more;
    grown = t.grown;
    foreign = λ k apart. t.foreign k apart ∙ sym (nothing_new k apart (cases_eq (origin r) k));
    aborts = t.aborts;
    rises = t.rises;
    clock = t.clock;
    held = λ x there. by_held x (mem_cases x done (r ∷ []) there);
    causal = t.causal;
  }
    where
      low : (origin r ≡ s) ⊎ (own_time r ≤ w.tab s s (origin r)) → (k : ℕ) → k ≢ s → origin r ≡ k → own_time r ≤ w.tab s s k
      low (inl own) k apart its = absurd (apart (sym its ∙ own))
      low (inr known) k apart its = subst (λ j. own_time r ≤ w.tab s s j) its known

      nothing_new : (k : ℕ) → k ≢ s → (origin r ≡ k) ⊎ (origin r ≡ k → ⊥) → over (w.tab s s k) (of k (done ++ r ∷ [])) ≡ over (w.tab s s k) (of k done)
      nothing_new k apart (inl its) =
          ap (over (w.tab s s k)) (of_more k done r its) ∙ over_append (w.tab s s k) (of k done) (r ∷ [])
          ∙ ap (λ rs. over (w.tab s s k) (of k done) ++ rs) (filter_no (λ x. nat_lt (w.tab s s k) (own_time x)) r [] (le-ltb (w.tab s s k) (own_time r) (low passed k apart its)))
          ∙ append-nil (over (w.tab s s k) (of k done))
      nothing_new k apart (inr other) = ap (over (w.tab s s k)) (of_more_other k done r other)

      told : Mem r (w.log (origin r))
      told = (letter_home w m l r (mem_of_cut r m.records done rest e)).there

      stands : (origin r ≡ s) ⊎ (own_time r ≤ w.tab s s (origin r)) → Mem r (w.log s)
      stands (inl own) = subst (λ k. Mem r (w.log k)) own told
      stands (inr known) = known_here w h s r told known

      by_held : (x : Record) → Mem x done ⊎ ((r ≡ x) ⊎ ⊥) → Mem x a.log
      by_held x (inl old) = t.held x old
      by_held x (inr (inl same)) = subst (λ y. Mem y a.log) same (taken_old w s done a r t (stands passed))
      by_held x (inr (inr none)) = absurd none

  -- one more record of another site, above the row
  taken_new : (done rest : List Record) (r : Record) (a : Intake) → m.records ≡ done ++ r ∷ rest → HasTaken w s done a
      → origin r ≢ s → w.tab s s (origin r) < own_time r → HasTaken w s (done ++ r ∷ []) (with_taken a r)
  taken_new done rest r a e t apart above = record {
    more = t.more ++ r ∷ [];
    grown = ap (λ rs. rs ++ r ∷ []) t.grown ∙ append_assoc (w.log s) t.more (r ∷ []);
    foreign = λ k away. by_origin k away (cases_eq (origin r) k);
    aborts = λ x new own. by_abort x own (mem_cases x t.more (r ∷ []) new);
    rises = subst (λ rs. Rising (w.tab s s s) rs) (sym same_own) t.rises;
    clock = ap (last_own (w.tab s s s)) same_own ∙ t.clock;
    held = λ x there. by_held x (mem_cases x done (r ∷ []) there);
    causal = λ x y new away before. by_cause x y away before (mem_cases y t.more (r ∷ []) new);
  }
    where
      same_own : of s (t.more ++ r ∷ []) ≡ of s t.more
      same_own = of_more_other s t.more r apart

      by_origin : (k : ℕ) → k ≢ s → (origin r ≡ k) ⊎ (origin r ≡ k → ⊥) → of k (t.more ++ r ∷ []) ≡ over (w.tab s s k) (of k (done ++ r ∷ []))
      by_origin k away (inl its) =
          of_more k t.more r its ∙ ap (λ rs. rs ++ r ∷ []) (t.foreign k away)
          ∙ ap (λ rs. over (w.tab s s k) (of k done) ++ rs)
          (sym (filter_yes (λ x. nat_lt (w.tab s s k) (own_time x)) r [] (lt-ltb (w.tab s s k) (own_time r) (subst (λ j. w.tab s s j < own_time r) its above))))
          ∙ sym (over_append (w.tab s s k) (of k done) (r ∷ [])) ∙ ap (over (w.tab s s k)) (sym (of_more k done r its))
      by_origin k away (inr other) = of_more_other k t.more r other ∙ t.foreign k away ∙ ap (over (w.tab s s k)) (sym (of_more_other k done r other))

      by_abort : (x : Record) → origin x ≡ s → Mem x t.more ⊎ ((r ≡ x) ⊎ ⊥) → IsAbort x
      by_abort x own (inl old) = t.aborts x old own
      by_abort x own (inr (inl same)) = absurd (apart (ap origin same ∙ own))
      by_abort x own (inr (inr none)) = absurd none

      by_held : (x : Record) → Mem x done ⊎ ((r ≡ x) ⊎ ⊥) → Mem x (a.log ++ r ∷ [])
      by_held x (inl old) = mem_left x a.log (r ∷ []) (t.held x old)
      by_held x (inr (inl same)) = mem_right x a.log (r ∷ []) (inl same)
      by_held x (inr (inr none)) = absurd none

      at_last : (x y : Record) → r ≡ y → Before x r (w.log (origin r)) → Before x y (a.log ++ r ∷ [])
      at_last x y same before = before_across x y a.log (r ∷ []) (cause_here done rest r x a e t before) (inl same)

      by_cause : (x y : Record) → origin y ≢ s → Before x y (w.log (origin y)) → Mem y t.more ⊎ ((r ≡ y) ⊎ ⊥) → Before x y (a.log ++ r ∷ [])
      by_cause x y away before (inl old) = before_left x y a.log (r ∷ []) (t.causal x y old away before)
      by_cause x y away before (inr (inl same)) = at_last x y same (subst (λ z. Before x z (w.log (origin z))) (sym same) before)
      by_cause x y away before (inr (inr none)) = absurd none

  -- one more record that is not passed over
  taken_more : (done rest : List Record) (r : Record) (a : Intake) → m.records ≡ done ++ r ∷ rest → HasTaken w s done a
      → origin r ≢ s → w.tab s s (origin r) < own_time r → HasTaken w s (done ++ r ∷ []) (take_new s a r)
  taken_more done rest (Prepare p) a e t apart above =
      taken_aborts w s (done ++ Prepare p ∷ []) (with_taken a (Prepare p)) p.id (clashing s a.log p) (clashing_own s a.log p)
      (taken_new done rest (Prepare p) a e t apart above)
  taken_more done rest (Commit id time) a e t apart above =
      subst (λ b. HasTaken w s (done ++ Commit id time ∷ []) b)
      (sym (cond-true (is_unfinished a.log id) (with_taken a (Commit id time)) a (nothing_wanted done rest (Commit id time) a id e t apart above (same_id_itself id))))
      (taken_new done rest (Commit id time) a e t apart above)
  taken_more done rest (Abort id time cause) a e t apart above =
      subst (λ b. HasTaken w s (done ++ Abort id time cause ∷ []) b)
      (sym (cond-true (is_unfinished a.log id) (with_taken a (Abort id time cause)) a (nothing_wanted done rest (Abort id time cause) a id e t apart above (same_id_itself id))))
      (taken_new done rest (Abort id time cause) a e t apart above)

  pub taken_one : (done rest : List Record) (r : Record) (a : Intake) → m.records ≡ done ++ r ∷ rest → HasTaken w s done a
      → HasTaken w s (done ++ r ∷ []) (take_one s (w.tab s s) a r)
  taken_one done rest r a e t = by_test (cases_Bool (is_passed s (w.tab s s) r))
    where
      by_side : (nat_eq (origin r) s ≡ true) ⊎ (nat_le (own_time r) (w.tab s s (origin r)) ≡ true) → (origin r ≡ s) ⊎ (own_time r ≤ w.tab s s (origin r))
      by_side (inl own) = inl (eqb-true (origin r) s own)
      by_side (inr known) = inr (leb-true (own_time r) (w.tab s s (origin r)) known)

      by_test : (is_passed s (w.tab s s) r ≡ true) ⊎ (is_passed s (w.tab s s) r ≡ false) → HasTaken w s (done ++ r ∷ []) (take_one s (w.tab s s) a r)
      by_test (inl passed) = subst (λ b. HasTaken w s (done ++ r ∷ []) b) (sym (cond-true (is_passed s (w.tab s s) r) a (take_new s a r) passed))
          (taken_passed done rest r a e t (by_side (or_cases (nat_eq (origin r) s) (nat_le (own_time r) (w.tab s s (origin r))) passed)))
      by_test (inr new) =
          let parts = or_parts (nat_eq (origin r) s) (nat_le (own_time r) (w.tab s s (origin r))) new in
          subst (λ b. HasTaken w s (done ++ r ∷ []) b) (sym (cond-false (is_passed s (w.tab s s) r) a (take_new s a r) new))
          (taken_more done rest r a e t (eqb-false (origin r) s parts.0) (leb-false (own_time r) (w.tab s s (origin r)) parts.1))

  pub taken_on : (done todo rest : List Record) (a : Intake) → m.records ≡ done ++ (todo ++ rest) → HasTaken w s done a
      → HasTaken w s (done ++ todo) (take_all s (w.tab s s) a todo)
  taken_on done [] rest a e t = subst (λ rs. HasTaken w s rs a) (sym (append-nil done)) t
  taken_on done (r ∷ todo) rest a e t =
      subst (λ rs. HasTaken w s rs (take_all s (w.tab s s) (take_one s (w.tab s s) a r) todo)) (append_assoc done (r ∷ []) todo)
      (taken_on (done ++ r ∷ []) todo rest (take_one s (w.tab s s) a r) (e ∙ sym (append_assoc done (r ∷ []) (todo ++ rest)))
      (taken_one done (todo ++ rest) r a e t))

  -- after any first part of the message
  pub taken_part : (done rest : List Record) → m.records ≡ done ++ rest
      → HasTaken w s done (take_all s (w.tab s s) (record { log = w.log s; clock = w.tab s s s }) done)
  taken_part done rest e = taken_on [] done rest (record { log = w.log s; clock = w.tab s s s }) e (taken_none w s)

  pub taken_all : HasTaken w s m.records (taken w s m)
  taken_all = taken_part m.records [] (sym (append-nil m.records))
