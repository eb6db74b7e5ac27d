-- Squares of round trips of which no place breaks a rule.
use Rattle.std.proofs.Common.{◌≡◌, inl, inr, ℕ, ◌+◌, ◌*◌, ◌/◌, ◌%◌, ◌<◌, ◌≤◌, Bool, true, false, List, None, Some, length, get_or, refl, sym, ◌∙◌, ap, subst, arith}
use Rattle.std.specs.Prelude.{nat_lt, ◌==◌, ◌&&◌, not, All, Option, IfNone}
use Rattle.std.proofs.lemmas.Bool.{ltb-false, eqb-true, lt-ltb, cases_order}
use Rattle.std.proofs.lemmas.List.Elements.{All-from_get_or}
use Rattle.std.proofs.lemmas.Nat.{div_below, mul-add-lt, div-mul-add, mod-mul-add}
use Rattle.helios_model.specs.Limits.{longest_trip}
use Rattle.helios_model.specs.Grid.{at}
use Rattle.helios_model.proofs.FirstBelow.{fails_below}
use Rattle.helios_model.specs.Squares.{too_long_place, is_uneven, uneven_place, first_away, IsSymmetric, IsZeroOnDiagonal}

-- the mirror image of a place stands in the square
pub mirror_within : (n place : ℕ) → place < n * n → 0 < n → (place % n) * n + place / n < n * n
mirror_within n place within some = (let row : place / n < n = div_below place n n some within in mul-add-lt (place % n) n (place / n) n (let column : place % n < n = omega arith in column) row)

same_of : (a b : ℕ) → not (a == b) ≡ false → a ≡ b
same_of a b h = eqb-true a b (not_not (a == b) h)
  where
    not_not : (c : Bool) → not c ≡ false → c ≡ true
    not_not true h = refl
    not_not false h = cc

all_short : (trips : List ℕ) → too_long_place trips ≡ None → All (λ trip. trip ≤ longest_trip) trips
all_short trips none = All-from_get_or (λ trip. trip ≤ longest_trip) trips 0 (λ k low. ltb-false longest_trip (get_or trips k 0) (fails_below (λ place. nat_lt longest_trip (get_or trips place 0)) (length trips) none k low))

even_place : (n : ℕ) (trips : List ℕ) (i j place : ℕ) → place / n ≡ i → place % n ≡ j → i < j → is_uneven n trips place ≡ false → at n trips i j ≡ at n trips j i
even_place n trips i j place row column above even =
    let P : ℕ → ℕ → Type 0 = λ a b. (nat_lt a b && not (at n trips a b == at n trips b a)) ≡ false in
    let here : P i j = subst (λ (a : ℕ). P a j) row (subst (λ (b : ℕ). P (place / n) b) column even) in
    same_of (at n trips i j) (at n trips j i) (sym (ap (λ b. b && not (at n trips i j == at n trips j i)) (lt-ltb i j above)) ∙ here)

symmetric : (n : ℕ) (trips : List ℕ) → uneven_place n trips ≡ None → IsSymmetric n trips
symmetric n trips none i j row column =
    let even : (a b : ℕ) → a < n → b < n → a < b → at n trips a b ≡ at n trips b a = λ a b low high above.
    even_place n trips a b (a * n + b) (div-mul-add a n b high) (mod-mul-add a n b high) above (fails_below (is_uneven n trips) (n * n) none (a * n + b) (mul-add-lt a n b n low high)) in
    elim (cases_order i j) [
      | inl same ↦ ap (λ b. at n trips i b) (sym same) ∙ ap (λ b. at n trips b i) same
      | inr apart ↦ elim apart [
        | inl above ↦ even i j row column above
        | inr below ↦ sym (even j i column row below)
      ]
    ]

zero_on_diagonal : (n : ℕ) (trips : List ℕ) → first_away n trips ≡ None → IsZeroOnDiagonal n trips
zero_on_diagonal n trips none i row = same_of (at n trips i i) 0 (fails_below (λ k. not (at n trips k k == 0)) n none i row)

-- where none is too long, all are short
pub none_too_long : (trips : List ℕ) (found : Option ℕ) → found ≡ too_long_place trips → IfNone found (All (λ trip. trip ≤ longest_trip) trips)
none_too_long trips None is = all_short trips (sym is)
none_too_long trips (Some place) is = tt

pub none_uneven : (n : ℕ) (trips : List ℕ) (found : Option ℕ) → found ≡ uneven_place n trips → IfNone found (IsSymmetric n trips)
none_uneven n trips None is = symmetric n trips (sym is)
none_uneven n trips (Some place) is = tt

pub none_away : (n : ℕ) (trips : List ℕ) (found : Option ℕ) → found ≡ first_away n trips → IfNone found (IsZeroOnDiagonal n trips)
none_away n trips None is = zero_on_diagonal n trips (sym is)
none_away n trips (Some place) is = tt
