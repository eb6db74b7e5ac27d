-- n numbers below n of which no two are alike are the numbers below n in some order.
use Rattle.std.proofs.Common.{◌≡◌, ◌≢◌, ℕ, ◌+◌, ◌<◌, ◌≤◌, Bool, true, false, ◌||◌, List, [], ◌∷◌, length, get_or, refl, sym, ◌∙◌, ap, arith}
use Rattle.std.proofs.lemmas.Cmp.{nat_eq_equiv}
use Rattle.std.specs.List.{All, IsDistinct, AllByRecursion, list_any, range_with_len, remove, Contains}
use Rattle.std.specs.List.Sorted.{IsPermutation}
use Rattle.std.proofs.lemmas.Bool.{eqb-true, eqb-false, eq-eqb, ne_eqb}
use Rattle.std.proofs.lemmas.List.{get_or_default, nil_from_length}
use Rattle.std.proofs.lemmas.List.Edits.{length-remove}
use Rattle.std.proofs.lemmas.List.Elements.{All-get_or, All-from_get_or, All-from_recursion}
use Rattle.std.proofs.lemmas.List.Folds.{list_any_none}
use Rattle.std.proofs.lemmas.List.FromFn.{length-range_with_len, get_or-range_with_len}
use Rattle.std.proofs.lemmas.List.Sorted.{IsPermutation-refl, IsPermutation-cons, IsPermutation-trans, IsPermutation-sym, IsPermutation-remove, list_any-IsPermutation, length_permutation, All-permutation}
use Rattle.std.proofs.lemmas.Map.Keys.{IsDistinct-head, IsDistinct-tail, IsDistinct-from_apart, IsDistinct-cons, IsDistinct-IsPermutation, apart_from_distinct}
use Rattle.std.proofs.lemmas.Map.Steps.{length-le_from_distinct_below}
use Rattle.std.proofs.lemmas.Map.Views.{Contains-from_any}
use lib.Dec.{eqb}

or_first : (b c : Bool) → b ≡ true → (b || c) ≡ true
or_first true c h = refl
or_first false c h = cc

or_second : (b c : Bool) → c ≡ true → (b || c) ≡ true
or_second true c h = refl
or_second false c h = h

or_left_out : (b c : Bool) → (b || c) ≡ true → b ≡ false → c ≡ true
or_left_out true c h out = cc
or_left_out false c h out = h

first_false : (b c : Bool) → (b || c) ≡ false → b ≡ false
first_false true c h = cc
first_false false c h = refl

second_false : (b c : Bool) → (b || c) ≡ false → c ≡ false
second_false true c h = cc
second_false false c h = h

-- what stands behind a head that no later number equals isn't the head
other_than_head : (k q : ℕ) (ks : List ℕ) → AllByRecursion (λ y. eqb k y ≡ false) ks → list_any (eqb q) ks ≡ true → eqb q k ≡ false
other_than_head k q ks apart found = ne_eqb q k (λ same.
    let none : list_any (eqb k) ks ≡ false = list_any_none (eqb k) ks (All-from_recursion (λ y. eqb k y ≡ false) ks apart) in
    let some : list_any (eqb k) ks ≡ true = ap (λ n. list_any (eqb n) ks) (sym same) ∙ found in
    cc)

-- where each number of a list without repetition stands in one that is as long, that one is the list in some order
permutation_of_all : (ks js : List ℕ) → IsDistinct eqb ks → length js ≡ length ks → ((q : ℕ) → list_any (eqb q) ks ≡ true → list_any (eqb q) js ≡ true) → IsPermutation ks js
permutation_of_all [] js apart long all = rw (nil_from_length js long) (IsPermutation-refl [])
permutation_of_all (k ∷ ks) js apart long all =
    let here : Contains js k = Contains-from_any eqb-true k js (all k (or_first (eqb k k) (list_any (eqb k) ks) (eq-eqb k k refl))) in
    let moved : IsPermutation js (k ∷ remove js here.0) = IsPermutation-remove js here.0 k here.1 (sym here.2) in
    let rest : IsPermutation ks (remove js here.0) =
    permutation_of_all ks (remove js here.0) (IsDistinct-tail eqb k ks apart)
    (let shorter : length (remove js here.0) + 1 ≡ length js = length-remove js here.0 here.1 in omega arith)
    (λ q found.
    let kept : list_any (eqb q) (k ∷ remove js here.0) ≡ true =
    sym (list_any-IsPermutation (eqb q) js (k ∷ remove js here.0) moved) ∙ all q (or_second (eqb q k) (list_any (eqb q) ks) found) in
    or_left_out (eqb q k) (list_any (eqb q) (remove js here.0)) kept (other_than_head k q ks (IsDistinct-head eqb k ks apart) found)) in
    IsPermutation-trans (k ∷ ks) (k ∷ remove js here.0) js (IsPermutation-cons k ks (remove js here.0) rest) (IsPermutation-sym js (k ∷ remove js here.0) moved)

-- no two alike, by places
abbrev pub AreApart : List ℕ → Type 0
AreApart js = (i j : ℕ) → i < j → j < length js → get_or js i 0 ≢ get_or js j 0

distinct_from_apart : (js : List ℕ) → AreApart js → IsDistinct eqb js
distinct_from_apart js apart = IsDistinct-from_apart eqb js (λ i j d before within.
    ne_eqb (get_or js i d) (get_or js j d) (λ same.
    apart i j before within (get_or_default js i 0 d (omega arith) ∙ same ∙ get_or_default js j d 0 within)))

range_distinct : (n : ℕ) → IsDistinct eqb (range_with_len 0 n)
range_distinct n = distinct_from_apart (range_with_len 0 n) (λ i j before within same.
    let long : length (range_with_len 0 n) ≡ n = length-range_with_len 0 n in
    let first : get_or (range_with_len 0 n) i 0 ≡ 0 + i = get_or-range_with_len 0 n i 0 (omega arith) in
    let second : get_or (range_with_len 0 n) j 0 ≡ 0 + j = get_or-range_with_len 0 n j 0 (omega arith) in
    omega arith)

-- a number of a list is below what bounds it at each place
below_from_any : (n : ℕ) (js : List ℕ) → ((i : ℕ) → i < length js → get_or js i 0 < n) → (q : ℕ) → list_any (eqb q) js ≡ true → q < n
below_from_any n js below q found =
    let here : Contains js q = Contains-from_any eqb-true q js found in
    let is : get_or js here.0 0 ≡ q = get_or_default js here.0 0 q here.1 ∙ here.2 in
    let low : get_or js here.0 0 < n = below here.0 here.1 in
    omega arith

-- a number below n that n numbers below n without repetition lacked would make them n + 1
none_missing : (n : ℕ) (js : List ℕ) → length js ≡ n → ((i : ℕ) → i < length js → get_or js i 0 < n) → IsDistinct eqb js → (q : ℕ) → q < n → (b : Bool) → list_any (eqb q) js ≡ b → b ≡ true
none_missing n js long below apart q low true is = refl
none_missing n js long below apart q low false is =
    let more : IsDistinct eqb (q ∷ js) = IsDistinct-cons eqb q js (none_is js is) apart in
    let short : length (q ∷ js) ≤ n = length-le_from_distinct_below (q ∷ js) n more (λ p found.
    elim (eqb p q) as (λ b. eqb p q ≡ b → p < n) [
      | true ↦ λ same. (let e : p ≡ q = eqb-true p q same in omega arith)
      | false ↦ λ other. below_from_any n js below p (or_left_out (eqb p q) (list_any (eqb p) js) found other)
    ] refl) in
    absurd (omega arith)
  where
    none_is : (ks : List ℕ) → list_any (eqb q) ks ≡ false → AllByRecursion (λ y. eqb q y ≡ false) ks
    none_is [] h = tt
    none_is (k ∷ ks) h = (first_false (eqb q k) (list_any (eqb q) ks) h, none_is ks (second_false (eqb q k) (list_any (eqb q) ks) h))

-- n numbers below n of which no two are alike are the numbers below n in some order
pub permutation_from_apart : (n : ℕ) (js : List ℕ) → length js ≡ n → ((i : ℕ) → i < n → get_or js i 0 < n) → AreApart js → IsPermutation (range_with_len 0 n) js
permutation_from_apart n js long below apart =
    let range_long : length (range_with_len 0 n) ≡ n = length-range_with_len 0 n in
    let low : (i : ℕ) → i < length js → get_or js i 0 < n = λ i within. below i (omega arith) in
    permutation_of_all (range_with_len 0 n) js (range_distinct n) (omega arith) (λ q found.
    none_missing n js long low (distinct_from_apart js apart) q
    (below_from_any n (range_with_len 0 n) (λ i within. let at : get_or (range_with_len 0 n) i 0 ≡ 0 + i = get_or-range_with_len 0 n i 0 (omega arith) in omega arith) q found)
    (list_any (eqb q) js) refl)

-- the numbers below n are below n
range_below : (n : ℕ) → All (λ j. j < n) (range_with_len 0 n)
range_below n = All-from_get_or (λ j. j < n) (range_with_len 0 n) 0 (λ i within.
    let long : length (range_with_len 0 n) ≡ n = length-range_with_len 0 n in
    let at : get_or (range_with_len 0 n) i 0 ≡ 0 + i = get_or-range_with_len 0 n i 0 (omega arith) in
    omega arith)

-- what the numbers below n are in another order is below n at each place
pub below_from_permutation : (n : ℕ) (js : List ℕ) → IsPermutation (range_with_len 0 n) js → (i : ℕ) → i < n → get_or js i 0 < n
below_from_permutation n js order i low =
    let long : length js ≡ n = length_permutation (range_with_len 0 n) js order ∙ length-range_with_len 0 n in
    All-get_or (λ j. j < n) js i 0 (omega arith) (All-permutation (λ j. j < n) (range_with_len 0 n) js order (range_below n))

-- no two of it are alike
pub apart_from_permutation : (n : ℕ) (js : List ℕ) → IsPermutation (range_with_len 0 n) js → AreApart js
apart_from_permutation n js order i j before within =
    eqb-false (get_or js i 0) (get_or js j 0)
    (apart_from_distinct eqb js i j 0 (IsDistinct-IsPermutation eqb (λ x y. (nat_eq_equiv).symm x y) (range_with_len 0 n) js order (range_distinct n)) before within)
