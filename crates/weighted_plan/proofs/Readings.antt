-- Numbers that are weights pass the test of a reader, and others do not.
use Rattle.std.proofs.Common.{◌≡◌, ℕ, ◌≤◌, Bool, true, false, ◌&&◌, cond, List, Some, None, length, refl, ap, arith}
use Rattle.std.specs.Prelude.{nat_le}
use Rattle.std.specs.List.{list_all}
use Rattle.std.proofs.lemmas.Bool.{and_from, false_from_ne_true, le-leb, leb-true}
use Rattle.std.proofs.lemmas.List.Elements.{All-weaker}
use Rattle.std.proofs.lemmas.List.Sums.{AllPass-from_list_all, list_all-from_AllPass}
use Rattle.helios_model.specs.Limits.{most_sites}
use Rattle.weighted_plan.specs.Reading.{is_weight, weighing}
use Rattle.weighted_plan.specs.Weighted.{greatest_weight, AreWeights, IsWeight}

first_of : (b c : Bool) → (b && c) ≡ true → b ≡ true
first_of true c h = refl
first_of false c h = cc

second_of : (b c : Bool) → (b && c) ≡ true → c ≡ true
second_of true c h = h
second_of false c h = cc

weight_from : (n : ℕ) → is_weight n ≡ true → IsWeight n
weight_from n passes = (leb-true 1 n (first_of (nat_le 1 n) (nat_le n greatest_weight) passes), leb-true n greatest_weight (second_of (nat_le 1 n) (nat_le n greatest_weight) passes))

pub all_weights : (numbers : List ℕ) → AreWeights numbers → weighing numbers ≡ Some numbers
all_weights numbers weights = ap (λ b. cond b (Some numbers) None)
    (list_all-from_AllPass is_weight numbers (All-weaker IsWeight (λ n. is_weight n ≡ true)
    (λ n h. and_from (nat_le 1 n) (nat_le n greatest_weight) (le-leb 1 n h.0) (le-leb n greatest_weight h.1)) numbers weights.each))

pub other_numbers : (count : ℕ) (numbers : List ℕ) → 1 ≤ count → count ≤ most_sites → length numbers ≡ count → (AreWeights numbers → ⊥) → weighing numbers ≡ None
other_numbers count numbers some few sized other = ap (λ b. cond b (Some numbers) None)
    (false_from_ne_true (list_all is_weight numbers) (λ passes. other (record {
      some = omega arith;
      few = omega arith;
      each = All-weaker (λ n. is_weight n ≡ true) IsWeight weight_from numbers (AllPass-from_list_all is_weight numbers passes);
    })))
