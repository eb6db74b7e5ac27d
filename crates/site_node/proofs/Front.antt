-- The own transactions that commit now are the first of those that wait: behind the Commit of the first the others do that did.
use Rattle.std.proofs.Common.{◌≡◌, ◌∙◌, ap, refl, sym, subst, ℕ, ◌+◌, ◌<◌, ◌≤◌, Bool, true, false, not, ◌&&◌, ◌||◌, ◌⊎◌, inl, inr, nat_eq, eq-eqb, eqb-true, Some, None, List, [], ◌∷◌, length, map, filter, find, fold, All, arith, suc}
use Rattle.std.specs.List.{list_all, range_with_len}
use Rattle.std.proofs.lemmas.Bool.{and_from, and_parts, both_ways, cases_Bool, eqb-false, le-leb, leb-true, or_left, or_right}
use Rattle.std.proofs.lemmas.List.Elements.{All-head, All-tail, All-weaker, filter_agree, filter_passes}
use Rattle.std.proofs.lemmas.List.Kept.{AllPairs-filter}
use Rattle.helios_model.specs.declared.ids.TxnId.{TxnId}
use Rattle.helios_model.specs.declared.records.Record.{Record}
use Rattle.helios_model.specs.declared.records.Record.TheVariants.{Commit}
use Rattle.helios_model.specs.Ids.{same_id}
use Rattle.helios_model.specs.Transactions.{Transaction}
use Rattle.helios_model.specs.Log.{finished, is_own, prepares, unfinished}
use Rattle.helios_model.specs.Plans.{PlanData, count_of, latency, rtt}
use Rattle.helios_model.specs.Offset.{is_past}
use Rattle.helios_model.specs.Node.{Node, clock, known, own_open, with_clock, with_record}
use Rattle.helios_model.specs.Settle.{commit_one, is_reached, ready, settle}
use Rattle.node_limits.specs.Laws.{ClockLeavesOtherTimes, EndLeavesTheOtherOwn}
use Rattle.site_ledger.specs.Ledger.{TimesRise, holds_id}
use Rattle.site_node.specs.Settling.{Goes}

-- what is found is the first that is kept, before the others
found_first : {X : Type 0} (t : X → Bool) (xs : List X) (x : X) → find t xs ≡ Some x → (rest : List X) × (filter t xs ≡ x ∷ rest)
found_first t [] x e = absurd (cc)
found_first {X = X} t (y ∷ ys) x e = by_test (cases_Bool (t y)) (found_first t ys x)
  where
    by_test : (t y ≡ true) ⊎ (t y ≡ false) → (find t ys ≡ Some x → (rest : List X) × (filter t ys ≡ x ∷ rest)) → (rest : List X) × (filter t (y ∷ ys) ≡ x ∷ rest)
    by_test (inl here) later =
        let some : Some y ≡ Some x = rw here at e in
        let same : y ≡ x = cc in
        (filter t ys, rw here (ap (λ z. z ∷ filter t ys) same))
    by_test (inr other) later =
        let rest : find t ys ≡ Some x = rw other at e in
        let found : (more : List X) × (filter t ys ≡ x ∷ more) = later rest in
        (found.0, rw other found.1)

none_found : {X : Type 0} (t : X → Bool) (xs : List X) → find t xs ≡ None → filter t xs ≡ []
none_found t [] e = refl
none_found {X = X} t (x ∷ xs) e = by_test (cases_Bool (t x)) (none_found t xs)
  where
    by_test : (t x ≡ true) ⊎ (t x ≡ false) → (find t xs ≡ None → filter t xs ≡ []) → filter t (x ∷ xs) ≡ []
    by_test (inl here) later =
        let some : Some x ≡ None = rw here at e in
        absurd (cc)
    by_test (inr other) later =
        let rest : find t xs ≡ None = rw other at e in
        rw other (later rest)

none_kept : {X : Type 0} (t : X → Bool) (xs : List X) → All (λ x. t x ≡ false) xs → filter t xs ≡ []
none_kept t [] h = refl
none_kept t (x ∷ xs) h = let here : t x ≡ false = All-head (λ y. t y ≡ false) x xs h in rw here (none_kept t xs (All-tail (λ y. t y ≡ false) x xs h))

all_kept : {X : Type 0} (t : X → Bool) (xs : List X) → All (λ x. t x ≡ true) xs → filter t xs ≡ xs
all_kept t [] h = refl
all_kept t (x ∷ xs) h =
    let here : t x ≡ true = All-head (λ y. t y ≡ true) x xs h in
    rw here (ap (λ ys. x ∷ ys) (all_kept t xs (All-tail (λ y. t y ≡ true) x xs h)))

pub same_itself : (id : TxnId) → same_id id id ≡ true
same_itself id = let site : nat_eq id.site id.site ≡ true = nat_itself id.site in let time : nat_eq id.time id.time ≡ true = nat_itself id.time in rw (site, time) refl
  where
    nat_itself : (n : ℕ) → nat_eq n n ≡ true
    nat_itself n = eq-eqb n n refl

-- a transaction that is found among a site's own is held, and is its own
pub found_own : (site : ℕ) (pools : List Transaction) (p : Transaction) → find (is_own site) pools ≡ Some p → (p.id.site ≡ site) × (holds_id pools p.id ≡ true)
found_own site [] p e = absurd (cc)
found_own site (q ∷ qs) p e = by_test (cases_Bool (is_own site q)) (found_own site qs p)
  where
    by_test : (is_own site q ≡ true) ⊎ (is_own site q ≡ false) → (find (is_own site) qs ≡ Some p → (p.id.site ≡ site) × (holds_id qs p.id ≡ true))
        → (p.id.site ≡ site) × (holds_id (q ∷ qs) p.id ≡ true)
    by_test (inl here) later =
        let some : Some q ≡ Some p = rw here at e in
        let same : q ≡ p = cc in (
          sym (ap (λ x. x.id.site) same) ∙ eqb-true q.id.site site here,
          or_left (same_id q.id p.id) (holds_id qs p.id) (ap (λ x. same_id x.id p.id) same ∙ same_itself p.id),
        )
    by_test (inr other) later =
        let rest : find (is_own site) qs ≡ Some p = rw other at e in
        let found : (p.id.site ≡ site) × (holds_id qs p.id ≡ true) = later rest in
        (found.0, or_right (same_id q.id p.id) (holds_id qs p.id) found.1)

module _ (plan : PlanData) (n : Node) where
  -- a time is reached where a later one is
  reached_earlier : (a b : ℕ) → a ≤ b → is_reached plan n b ≡ true → is_reached plan n a ≡ true
  reached_earlier a b low h = goes (range_with_len 0 (count_of plan)) h
    where
      each : (j : ℕ) → (nat_eq j n.site || is_past plan n.site j b (known plan n n.site j)) ≡ true → (nat_eq j n.site || is_past plan n.site j a (known plan n n.site j)) ≡ true
      each j past = by_test (cases_Bool (nat_eq j n.site))
        where
          by_test : (nat_eq j n.site ≡ true) ⊎ (nat_eq j n.site ≡ false) → (nat_eq j n.site || is_past plan n.site j a (known plan n n.site j)) ≡ true
          by_test (inl own) = rw own refl
          by_test (inr other) =
              let later : is_past plan n.site j b (known plan n n.site j) ≡ true = rw other at past in
              let within : b + latency plan n.site ≤ known plan n n.site j + rtt plan n.site j = leb-true (b + latency plan n.site) (known plan n n.site j + rtt plan n.site j) later in
              rw other (le-leb (a + latency plan n.site) (known plan n n.site j + rtt plan n.site j) (omega arith))

      goes : (js : List ℕ) → list_all (λ j. nat_eq j n.site || is_past plan n.site j b (known plan n n.site j)) js ≡ true → list_all (λ j. nat_eq j n.site || is_past plan n.site j a (known plan n n.site j)) js ≡ true
      goes [] e = refl
      goes (j ∷ js) e =
          let parts = and_parts (nat_eq j n.site || is_past plan n.site j b (known plan n n.site j)) (list_all (λ k. nat_eq k n.site || is_past plan n.site k b (known plan n n.site k)) js) e in
          and_from (nat_eq j n.site || is_past plan n.site j a (known plan n n.site j)) (list_all (λ k. nat_eq k n.site || is_past plan n.site k a (known plan n n.site k)) js) (each j parts.0) (goes js parts.1)

  -- the node's own time is not looked at
  reached_still : ClockLeavesOtherTimes → (r : Record) (time at : ℕ) → is_reached plan (with_clock plan (with_record n r) time) at ≡ is_reached plan n at
  reached_still stay r time at = goes (range_with_len 0 (count_of plan))
    where
      m : Node
      m = with_record n r

      each : (j : ℕ) → (nat_eq j n.site || is_past plan n.site j at (known plan (with_clock plan m time) n.site j)) ≡ (nat_eq j n.site || is_past plan n.site j at (known plan n n.site j))
      each j = by_test (cases_Bool (nat_eq j n.site))
        where
          by_test : (nat_eq j n.site ≡ true) ⊎ (nat_eq j n.site ≡ false)
              → (nat_eq j n.site || is_past plan n.site j at (known plan (with_clock plan m time) n.site j)) ≡ (nat_eq j n.site || is_past plan n.site j at (known plan n n.site j))
          by_test (inl own) = rw own refl
          by_test (inr other) = ap (λ t. nat_eq j n.site || is_past plan n.site j at t) (stay plan m time j (eqb-false j n.site other))

      goes : (js : List ℕ) → list_all (λ j. nat_eq j n.site || is_past plan n.site j at (known plan (with_clock plan m time) n.site j)) js
          ≡ list_all (λ j. nat_eq j n.site || is_past plan n.site j at (known plan n n.site j)) js
      goes [] = refl
      goes (j ∷ js) = λ i. each j i && goes js i

  own_site : All (λ p. p.id.site ≡ n.site) (own_open n)
  own_site =
      All-weaker (λ p. is_own n.site p ≡ true) (λ p. p.id.site ≡ n.site) (λ p own. eqb-true p.id.site n.site own) (own_open n) (filter_passes (is_own n.site) (unfinished n.log))

  own_rise : TimesRise (prepares n.log) → TimesRise (own_open n)
  own_rise h =
      AllPairs-filter (λ p q. p.id.site ≡ q.id.site → p.id.time < q.id.time) (is_own n.site) (unfinished n.log)
      (AllPairs-filter (λ p q. p.id.site ≡ q.id.site → p.id.time < q.id.time) (λ p. not (finished n.log p.id)) (prepares n.log) h)

  -- those behind the first have later times
  later_ones : (p : Transaction) (rest : List Transaction) → TimesRise (p ∷ rest) → All (λ q. q.id.site ≡ n.site) (p ∷ rest) → All (λ q. p.id.time < q.id.time) rest
  later_ones p rest h own = λ k d low.
      h 0 (suc k) d (omega arith) (omega arith)
      (All-head (λ q. q.id.site ≡ n.site) p rest own ∙ sym (All-tail (λ q. q.id.site ≡ n.site) p rest own k d low))

  -- where the first waits all do
  rest_waits : (p : Transaction) (rest : List Transaction) → All (λ q. p.id.time < q.id.time) rest → is_reached plan n p.id.time ≡ false
      → filter (λ q. is_reached plan n q.id.time) (p ∷ rest) ≡ []
  rest_waits p rest later waits =
      rw waits (none_kept (λ q. is_reached plan n q.id.time) rest
      (All-weaker (λ q. p.id.time < q.id.time) (λ q. is_reached plan n q.id.time ≡ false) each rest later))
    where
      each : (q : Transaction) → p.id.time < q.id.time → is_reached plan n q.id.time ≡ false
      each q less = by_test (cases_Bool (is_reached plan n q.id.time))
        where
          by_test : (is_reached plan n q.id.time ≡ true) ⊎ (is_reached plan n q.id.time ≡ false) → is_reached plan n q.id.time ≡ false
          by_test (inl past) = absurd (both_ways (is_reached plan n p.id.time) waits (reached_earlier p.id.time q.id.time (omega arith) past))
          by_test (inr more) = more

  pub none_ready : find (is_own n.site) (unfinished n.log) ≡ None → ready plan n ≡ []
  none_ready none = ap (λ ps. map (λ p. p.id) (filter (λ p. is_reached plan n p.id.time) ps)) (none_found (is_own n.site) (unfinished n.log) none)

  pub first_waits : (p : Transaction) → find (is_own n.site) (unfinished n.log) ≡ Some p → TimesRise (prepares n.log) → is_reached plan n p.id.time ≡ false → ready plan n ≡ []
  first_waits p found rise waits =
      let front : (rest : List Transaction) × (own_open n ≡ p ∷ rest) = found_first (is_own n.site) (unfinished n.log) p found in
      let later : All (λ q. p.id.time < q.id.time) front.0 =
      later_ones p front.0 (subst TimesRise front.1 (own_rise rise)) (subst (All (λ q. q.id.site ≡ n.site)) front.1 own_site) in
      ap (λ ps. map (λ q. q.id) (filter (λ q. is_reached plan n q.id.time) ps)) front.1 ∙ ap (map (λ q. q.id)) (rest_waits p front.0 later waits)

  -- behind the Commit of the first the others are open
  others_open : EndLeavesTheOtherOwn → (p : Transaction) (rest : List Transaction) → own_open n ≡ p ∷ rest → All (λ q. p.id.time < q.id.time) rest → own_open (commit_one plan n p.id) ≡ rest
  others_open leaves p rest front later =
      leaves n.site n.log (Commit p.id (clock plan n + 1)) refl
      ∙ ap (filter (λ q. not (same_id p.id q.id))) front
      ∙ by_first (same_itself p.id)
    where
      apart : (q : Transaction) → p.id.time < q.id.time → not (same_id p.id q.id) ≡ true
      apart q less = by_test (cases_Bool (same_id p.id q.id))
        where
          by_test : (same_id p.id q.id ≡ true) ⊎ (same_id p.id q.id ≡ false) → not (same_id p.id q.id) ≡ true
          by_test (inl same) =
              let parts = and_parts (nat_eq p.id.site q.id.site) (nat_eq p.id.time q.id.time) same in
              let times : p.id.time ≡ q.id.time = eqb-true p.id.time q.id.time parts.1 in
              absurd (omega arith)
          by_test (inr other) = ap not other

      by_first : same_id p.id p.id ≡ true → filter (λ q. not (same_id p.id q.id)) (p ∷ rest) ≡ rest
      by_first same =
          rw same (all_kept (λ q. not (same_id p.id q.id)) rest (All-weaker (λ q. p.id.time < q.id.time) (λ q. not (same_id p.id q.id) ≡ true) apart rest later))

-- the first commits
pub first_goes : EndLeavesTheOtherOwn → ClockLeavesOtherTimes → (plan : PlanData) (n : Node) (p : Transaction) → find (is_own n.site) (unfinished n.log) ≡ Some p → TimesRise (prepares n.log)
    → is_reached plan n p.id.time ≡ true → Goes plan n p.id
first_goes leaves stay plan n p found rise past =
    let front : (rest : List Transaction) × (own_open n ≡ p ∷ rest) = found_first (is_own n.site) (unfinished n.log) p found in
    let later : All (λ q. p.id.time < q.id.time) front.0 =
    later_ones plan n p front.0 (subst TimesRise front.1 (own_rise plan n rise)) (subst (All (λ q. q.id.site ≡ n.site)) front.1 (own_site plan n)) in
    let m : Node = commit_one plan n p.id in
    let others : own_open m ≡ front.0 = others_open plan n leaves p front.0 front.1 later in
    record {
      first = ap (λ ps. map (λ q. q.id) (filter (λ q. is_reached plan n q.id.time) ps)) front.1
          ∙ kept front.0
          ∙ ap (λ ids. p.id ∷ ids) (ap (λ ps. map (λ q. q.id) (filter (λ q. is_reached plan n q.id.time) ps)) (sym others)
          ∙ ap (map (λ q. q.id)) (filter_agree (λ q. is_reached plan n q.id.time) (λ q. is_reached plan m q.id.time)
          (λ q. sym (reached_still plan n stay (Commit p.id (clock plan n + 1)) (clock plan n + 1) q.id.time)) (own_open m)));
      fewer = ap (λ ps. length ps + 1) others ∙ counted front.0 ∙ sym (ap (λ ps. length ps) front.1);
    }
  where
    kept : (rest : List Transaction) → map (λ q. q.id) (filter (λ q. is_reached plan n q.id.time) (p ∷ rest)) ≡ p.id ∷ map (λ q. q.id) (filter (λ q. is_reached plan n q.id.time) rest)
    kept rest = rw past refl

    counted : (rest : List Transaction) → length rest + 1 ≡ length (p ∷ rest)
    counted rest = omega arith

-- to settle is to commit the first and settle then
pub settle_goes : (plan : PlanData) (n : Node) (id : TxnId) → ready plan n ≡ id ∷ ready plan (commit_one plan n id) → settle plan n ≡ settle plan (commit_one plan n id)
settle_goes plan n id first = ap (fold (commit_one plan) n) first

pub settle_rests : (plan : PlanData) (n : Node) → ready plan n ≡ [] → settle plan n ≡ n
settle_rests plan n none = ap (fold (commit_one plan) n) none

pub none_open : (plan : PlanData) (n : Node) → length (own_open n) ≡ 0 → settle plan n ≡ n
none_open plan n none = settle_rests plan n (ap (λ ps. map (λ p. p.id) (filter (λ p. is_reached plan n p.id.time) ps)) (empty (own_open n) none))
  where
    empty : (ps : List Transaction) → length ps ≡ 0 → ps ≡ []
    empty [] e = refl
    empty (p ∷ ps) e = absurd (omega arith)
