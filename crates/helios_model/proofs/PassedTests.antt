-- A matrix passes the tests of its names and round trips.
use Rattle.std.proofs.Common.{◌≡◌, ℕ, zero, suc, ◌*◌, ◌/◌, ◌%◌, ◌<◌, ◌≤◌, Bool, true, false, ◌&&◌, ◌||◌, List, [], ◌∷◌, length, get_or, take, refl, ap, arith}
use Rattle.std.specs.Prelude.{nat_lt, ◌==◌, not, option_map}
use Rattle.std.specs.List.{list_any}
use Rattle.std.proofs.lemmas.Bool.{le-ltb, eq-eqb, and_parts}
use Rattle.std.proofs.lemmas.List.Elements.{All-get_or}
use Rattle.std.proofs.lemmas.List.Folds.{list_any_at}
use Rattle.std.proofs.lemmas.Nat.{div_below}
use Rattle.helios_model.specs.Limits.{longest_trip}
use Rattle.helios_model.specs.Naming.{is_bad_name}
use Rattle.helios_model.specs.Passing.{EachMatrixPasses, EachSearchFindsFirst}
use Rattle.helios_model.specs.Grid.{at}
use Rattle.helios_model.specs.Spellings.{is_name}
use Rattle.helios_model.specs.Squares.{is_uneven, row_and_column}
use Rattle.helios_model.specs.Texts.{IsName, all_differ, same_text}
use Rattle.helios_model.proofs.SpellingSteps.{says_name}
use Rattle.helios_model.proofs.FirstBelow.{find_first, find_none}

pub each_search_finds_first : EachSearchFindsFirst
each_search_finds_first test bound = record { found = find_first test bound; none = find_none test bound }

second_false : (b c : Bool) → c ≡ false → (b && c) ≡ false
second_false true c second = second
second_false false c second = refl

neither : (b c : Bool) → b ≡ false → c ≡ false → (b || c) ≡ false
neither true c first second = cc
neither false c first second = second

not_true : (b : Bool) → not b ≡ true → b ≡ false
not_true true h = cc
not_true false h = refl

-- what no item of a list passes isn't passed at a place
fails_at : (test : List ℕ → Bool) (xs : List (List ℕ)) (j : ℕ) → j < length xs → list_any test xs ≡ false → test (get_or xs j []) ≡ false
fails_at test xs j low none = by_case (test (get_or xs j [])) refl
  where
    by_case : (b : Bool) → test (get_or xs j []) ≡ b → test (get_or xs j []) ≡ false
    by_case false is = is
    by_case true is = (let some : list_any test xs ≡ true = list_any_at test xs j [] low is in cc)

-- of texts that differ none stands before
none_before : (names : List (List ℕ)) → all_differ (λ name. name) names ≡ true → (i : ℕ) → i < length names → list_any (same_text (get_or names i [])) (take i names) ≡ false
none_before [] differ i low = absurd (omega arith)
none_before (x ∷ xs) differ zero low = refl
none_before (x ∷ xs) differ (suc j) low =
    let parts : (not (list_any (λ other. same_text other x) xs) ≡ true) × (all_differ (λ name. name) xs ≡ true) = and_parts (not (list_any (λ other. same_text other x) xs)) (all_differ (λ name. name) xs) differ in
    neither (same_text (get_or xs j []) x) (list_any (same_text (get_or xs j [])) (take j xs))
    (fails_at (λ other. same_text other x) xs j (omega arith) (not_true (list_any (λ other. same_text other x) xs) parts.0))
    (none_before xs parts.1 j (omega arith))

even_at : (n : ℕ) (trips : List ℕ) (place : ℕ) → 1 ≤ n → ((i j : ℕ) → i < n → j < n → at n trips i j ≡ at n trips j i) → place < n * n → is_uneven n trips place ≡ false
even_at n trips place some symmetric low =
    let row : place / n < n = div_below place n n some low in
    let column : place % n < n = omega arith in
    second_false (nat_lt (place / n) (place % n)) (not (at n trips (place / n) (place % n) == at n trips (place % n) (place / n)))
    (ap not (eq-eqb (at n trips (place / n) (place % n)) (at n trips (place % n) (place / n)) (symmetric (place / n) (place % n) row column)))

pub each_matrix_passes : EachMatrixPasses
each_matrix_passes names trips matrix =
    let n : ℕ = length names in
    record {
      named = find_none (is_bad_name names) n (λ i low. neither (not (is_name (get_or names i []))) (list_any (same_text (get_or names i [])) (take i names))
          (ap not (says_name (get_or names i []) (All-get_or IsName names i [] low matrix.named)))
          (none_before names matrix.distinct i low));
      short = ap (option_map (row_and_column n)) (find_none (λ place. nat_lt longest_trip (get_or trips place 0)) (length trips) (λ k low.
          le-ltb longest_trip (get_or trips k 0) (All-get_or (λ trip. trip ≤ longest_trip) trips k 0 low matrix.short)));
      even = ap (option_map (row_and_column n)) (find_none (is_uneven n trips) (n * n) (λ k low. even_at n trips k matrix.some matrix.symmetric low));
      home = find_none (λ i. not (at n trips i i == 0)) n (λ i low. ap not (eq-eqb (at n trips i i) 0 (matrix.diagonal i low)));
    }
