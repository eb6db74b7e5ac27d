-- Which transactions are unfinished once a log has one record more.
use Rattle.std.proofs.Common.{◌≡◌, ◌∙◌, ap, refl, sym, subst, ℕ, ◌+◌, ◌≤◌, Bool, true, false, not, ◌&&◌, ◌||◌, ◌⊎◌, inl, inr, eq-eqb, None, List, [], ◌∷◌, ◌++◌, length, filter, fold, map, All, arith}
use Rattle.std.specs.List.{cons_option, list_any}
use Rattle.std.proofs.lemmas.List.{append-nil, length-map}
use Rattle.std.proofs.lemmas.List.Elements.{All-cons, All-nil, All-weaker, filter-append, filter_agree, filter_map-append}
use Rattle.std.proofs.lemmas.List.Filters.{length-filter_both}
use Rattle.std.proofs.lemmas.List.Folds.{list_any-append}
use Rattle.std.proofs.lemmas.Bool.{both_ways, cases_Bool, not-true, or_left, or_right}
use Rattle.helios_model.specs.declared.ids.TxnId.{TxnId}
use Rattle.helios_model.specs.declared.records.Record.{Record}
use Rattle.helios_model.specs.declared.records.Record.TheVariants.{Prepare, Abort}
use Rattle.helios_model.specs.Ids.{same_id}
use Rattle.helios_model.specs.Transactions.{Transaction, conflict}
use Rattle.helios_model.specs.Log.{ends, finished, is_own, prepare_in, prepares, unfinished}
use Rattle.helios_model.specs.Exchange.{Intake, abort_one, clashing}
use Rattle.node_limits.proofs.Lists.{fewer, fewer_in, filter_twice, not_or, or_false}

pub finished_more : (log : List Record) (r : Record) (id : TxnId) → finished (log ++ r ∷ []) id ≡ (finished log id || ends id r)
finished_more log r id = list_any-append (ends id) log (r ∷ []) ∙ ap (λ b. finished log id || b) (or_false (ends id r))

pub prepares_end : (log : List Record) (r : Record) → prepare_in r ≡ None → prepares (log ++ r ∷ []) ≡ prepares log
prepares_end log r e =
    let nothing : prepares (r ∷ []) ≡ [] = ap (λ o. cons_option o []) e in
    filter_map-append prepare_in log (r ∷ []) ∙ ap (λ ps. prepares log ++ ps) nothing ∙ append-nil (prepares log)

-- a record that is no Prepare ends what it ends
pub unfinished_end : (log : List Record) (r : Record) → prepare_in r ≡ None → unfinished (log ++ r ∷ []) ≡ filter (λ p. not (ends p.id r)) (unfinished log)
unfinished_end log r e =
    ap (filter (λ p. not (finished (log ++ r ∷ []) p.id))) (prepares_end log r e)
    ∙ filter_agree (λ p. not (finished (log ++ r ∷ []) p.id)) (λ p. not (finished log p.id) && not (ends p.id r))
    (λ p. ap not (finished_more log r p.id) ∙ not_or (finished log p.id) (ends p.id r)) (prepares log)
    ∙ sym (filter_twice (λ p. not (ends p.id r)) (λ p. not (finished log p.id)) (prepares log))

-- a Prepare ends nothing
pub unfinished_prepare : (log : List Record) (p : Transaction) → unfinished (log ++ Prepare p ∷ []) ≡ unfinished log ++ filter (λ q. not (finished log q.id)) (p ∷ [])
unfinished_prepare log p =
    ap (filter (λ q. not (finished (log ++ Prepare p ∷ []) q.id))) (filter_map-append prepare_in log (Prepare p ∷ []))
    ∙ filter_agree (λ q. not (finished (log ++ Prepare p ∷ []) q.id)) (λ q. not (finished log q.id))
    (λ q. ap not (finished_more log (Prepare p) q.id ∙ or_false (finished log q.id))) (prepares log ++ p ∷ [])
    ∙ filter-append (λ q. not (finished log q.id)) (prepares log) (p ∷ [])

abbrev pub own_in : ℕ → List Record → List Transaction
own_in site log = filter (is_own site) (unfinished log)

and_turned : (a b : Bool) → (a && b) ≡ (b && a)
and_turned true true = refl
and_turned true false = refl
and_turned false true = refl
and_turned false false = refl

pub filters_turned : {X : Type 0} (p q : X → Bool) (xs : List X) → filter p (filter q xs) ≡ filter q (filter p xs)
filters_turned p q xs =
    filter_twice p q xs ∙ filter_agree (λ x. q x && p x) (λ x. p x && q x) (λ x. and_turned (q x) (p x)) xs ∙ sym (filter_twice q p xs)

pub own_end : (site : ℕ) (log : List Record) (r : Record) → prepare_in r ≡ None → own_in site (log ++ r ∷ []) ≡ filter (λ p. not (ends p.id r)) (own_in site log)
own_end site log r e = ap (filter (is_own site)) (unfinished_end log r e) ∙ filters_turned (is_own site) (λ p. not (ends p.id r)) (unfinished log)

pub own_end_fewer : (site : ℕ) (log : List Record) (r : Record) → prepare_in r ≡ None → length (own_in site (log ++ r ∷ [])) ≤ length (own_in site log)
own_end_fewer site log r e = rw (own_end site log r e) (fewer (λ p. not (ends p.id r)) (own_in site log))

-- one more own Prepare, or none more where it is another site's
pub own_prepare : (site : ℕ) (log : List Record) (p : Transaction) → length (own_in site (log ++ Prepare p ∷ [])) ≤ length (own_in site log) + 1
own_prepare site log p =
    let last : List Transaction = filter (is_own site) (filter (λ q. not (finished log q.id)) (p ∷ [])) in
    let whole : own_in site (log ++ Prepare p ∷ []) ≡ own_in site log ++ last =
    ap (filter (is_own site)) (unfinished_prepare log p) ∙ filter-append (is_own site) (unfinished log) (filter (λ q. not (finished log q.id)) (p ∷ [])) in
    let one : length (filter (λ q. not (finished log q.id)) (p ∷ [])) ≤ 1 = fewer (λ q. not (finished log q.id)) (p ∷ []) in
    let none : length last ≤ length (filter (λ q. not (finished log q.id)) (p ∷ [])) = fewer (is_own site) (filter (λ q. not (finished log q.id)) (p ∷ [])) in
    rw whole (omega (arith, length_appended (own_in site log) last))
  where
    length_appended : (xs ys : List Transaction) → length (xs ++ ys) ≡ length xs + length ys
    length_appended [] ys = omega arith
    length_appended (x ∷ xs) ys = let e : length (xs ++ ys) ≡ length xs + length ys = length_appended xs ys in omega arith

pub foreign_prepare : (site : ℕ) (log : List Record) (p : Transaction) → is_own site p ≡ false → own_in site (log ++ Prepare p ∷ []) ≡ own_in site log
foreign_prepare site log p other =
    ap (filter (is_own site)) (unfinished_prepare log p) ∙ filter-append (is_own site) (unfinished log) (filter (λ q. not (finished log q.id)) (p ∷ []))
    ∙ ap (λ ps. own_in site log ++ ps) (nothing (cases_Bool (not (finished log p.id)))) ∙ append-nil (own_in site log)
  where
    nothing : (not (finished log p.id) ≡ true) ⊎ (not (finished log p.id) ≡ false) → filter (is_own site) (filter (λ q. not (finished log q.id)) (p ∷ [])) ≡ []
    nothing (inl new) = rw (new, other) refl
    nothing (inr ended) = rw ended refl

-- what is left open once these ids are ended
abbrev pub is_none_of : List TxnId → Transaction → Bool
is_none_of ids p = not (list_any (λ id. same_id id p.id) ids)

pub none_ended : (ps : List Transaction) → filter (is_none_of []) ps ≡ ps
none_ended [] = refl
none_ended (p ∷ ps) = ap (λ qs. p ∷ qs) (none_ended ps)

-- the first of the ids is ended, then the others
pub one_ended : (id : TxnId) (ids : List TxnId) (ps : List Transaction) → filter (is_none_of ids) (filter (λ p. not (same_id id p.id)) ps) ≡ filter (is_none_of (id ∷ ids)) ps
one_ended id ids ps =
    filter_twice (is_none_of ids) (λ p. not (same_id id p.id)) ps
    ∙ sym (filter_agree (is_none_of (id ∷ ids)) (λ p. not (same_id id p.id) && is_none_of ids p) (λ p. not_or (same_id id p.id) (list_any (λ x. same_id x p.id) ids)) ps)

pub own_aborted : (site : ℕ) (cause : TxnId) (a : Intake) (ids : List TxnId) → own_in site (fold (abort_one cause) a ids).log ≡ filter (is_none_of ids) (own_in site a.log)
own_aborted site cause a [] = sym (none_ended (own_in site a.log))
own_aborted site cause a (id ∷ ids) =
    own_aborted site cause (abort_one cause a id) ids
    ∙ ap (filter (is_none_of ids)) (own_end site a.log (Abort id (a.clock + 1) cause) refl)
    ∙ one_ended id ids (own_in site a.log)

pub same_itself : (id : TxnId) → same_id id id ≡ true
same_itself id = rw (eq-eqb id.site id.site refl, eq-eqb id.time id.time refl) refl

-- the ids hold that of each transaction that passes the test
abbrev pub IsAmong : (Transaction → Bool) → List TxnId → Transaction → Type 0
IsAmong c ids p = c p ≡ true → list_any (λ id. same_id id p.id) ids ≡ true

pub among : (c : Transaction → Bool) (ps : List Transaction) → All (IsAmong c (map (λ q. q.id) (filter c ps))) ps
among c [] = All-nil (IsAmong c [])
among c (p ∷ ps) = by_test (cases_Bool (c p)) (among c ps)
  where
    by_test : (c p ≡ true) ⊎ (c p ≡ false) → All (IsAmong c (map (λ q. q.id) (filter c ps))) ps → All (IsAmong c (map (λ q. q.id) (filter c (p ∷ ps)))) (p ∷ ps)
    by_test (inl passes) rest =
        let ids : map (λ q. q.id) (filter c (p ∷ ps)) ≡ p.id ∷ map (λ q. q.id) (filter c ps) = rw passes refl in
        subst (λ xs. All (IsAmong c xs) (p ∷ ps)) (sym ids)
        (All-cons (IsAmong c (p.id ∷ map (λ q. q.id) (filter c ps))) p ps
        (λ its. or_left (same_id p.id p.id) (list_any (λ id. same_id id p.id) (map (λ q. q.id) (filter c ps))) (same_itself p.id))
        (All-weaker (IsAmong c (map (λ q. q.id) (filter c ps))) (IsAmong c (p.id ∷ map (λ q. q.id) (filter c ps)))
        (λ q there its. or_right (same_id p.id q.id) (list_any (λ id. same_id id q.id) (map (λ x. x.id) (filter c ps))) (there its)) ps rest))
    by_test (inr fails) rest =
        let ids : map (λ q. q.id) (filter c (p ∷ ps)) ≡ map (λ q. q.id) (filter c ps) = rw fails refl in
        subst (λ xs. All (IsAmong c xs) (p ∷ ps)) (sym ids)
        (All-cons (IsAmong c (map (λ q. q.id) (filter c ps))) p ps (λ its. absurd (both_ways (c p) fails its)) rest)

none_passes : (c : Transaction → Bool) (ids : List TxnId) (p : Transaction) → IsAmong c ids p → is_none_of ids p ≡ true → not (c p) ≡ true
none_passes c ids p there none = by_test (cases_Bool (c p))
  where
    by_test : (c p ≡ true) ⊎ (c p ≡ false) → not (c p) ≡ true
    by_test (inl passes) = absurd (both_ways (list_any (λ id. same_id id p.id) ids) (not-true (list_any (λ id. same_id id p.id) ids) none) (there passes))
    by_test (inr fails) = rw fails refl

-- the ended ones and what is left are together no more than what was open
pub aborted_sum : (site : ℕ) (cause : TxnId) (a b : Intake) (p : Transaction) → own_in site b.log ≡ own_in site a.log →
    length (own_in site (fold (abort_one cause) b (clashing site a.log p)).log) + length (clashing site a.log p) ≤ length (own_in site a.log)
aborted_sum site cause a b p same =
    let open_ones : List Transaction = own_in site a.log in
    let left : own_in site (fold (abort_one cause) b (clashing site a.log p)).log ≡ filter (is_none_of (clashing site a.log p)) open_ones =
    own_aborted site cause b (clashing site a.log p) ∙ ap (filter (is_none_of (clashing site a.log p))) same in
    let less : length (filter (is_none_of (clashing site a.log p)) open_ones) ≤ length (filter (λ q. not (conflict p q)) open_ones) =
    fewer_in (is_none_of (clashing site a.log p)) (λ q. not (conflict p q)) open_ones
    (All-weaker (IsAmong (conflict p) (clashing site a.log p)) (λ q. is_none_of (clashing site a.log p) q ≡ true → not (conflict p q) ≡ true)
    (none_passes (conflict p) (clashing site a.log p)) open_ones (among (conflict p) open_ones)) in
    let both : length (filter (conflict p) open_ones) + length (filter (λ q. not (conflict p q)) open_ones) ≡ length open_ones =
    length-filter_both (conflict p) (λ q. not (conflict p q)) (λ q. refl) open_ones in
    let ended : length (clashing site a.log p) ≡ length (filter (conflict p) open_ones) = length-map (filter (conflict p) open_ones) (λ q. q.id) in
    let left_count : length (own_in site (fold (abort_one cause) b (clashing site a.log p)).log) ≡ length (filter (is_none_of (clashing site a.log p)) open_ones) = ap (λ qs. length qs) left in
    omega arith
