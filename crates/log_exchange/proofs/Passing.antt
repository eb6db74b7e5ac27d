-- What is due of a run from a place on.
use Rattle.std.proofs.Common.{◌≡◌, ◌∙◌, ℕ, zero, suc, ◌+◌, ◌<◌, ◌≤◌, List, [], ◌∷◌, true, false, drop, length, nat_le, nat_lt, add-one, cond, get_or, subst, refl, sym, ap, arith}
use Rattle.std.specs.List.Sorted.{IsPartitionPoint}
use Rattle.std.proofs.lemmas.Bool.Decides.{nat_tests}
use Rattle.log_exchange.specs.declared.run.Stamp.{Stamp}
use Rattle.log_exchange.specs.Runs.{IsNextDue, TimesRise, due_stamps, first_stamp, is_first_passed}
use Rattle.log_exchange.proofs.Lines.{all_places}

pub rest_of : {X : Type 0} (n : ℕ) (xs : List X) → drop (n + 1) xs ≡ drop 1 (drop n xs)
rest_of n xs = ap (λ m. drop m xs) (add-one n) ∙ by_suc n xs
  where
    by_suc : {X : Type 0} (n : ℕ) (xs : List X) → drop (suc n) xs ≡ drop 1 (drop n xs)
    by_suc zero xs = refl
    by_suc (suc n) [] = refl
    by_suc (suc n) (x ∷ xs) = by_suc n xs

not_due : (known time : ℕ) → nat_le time known ≡ true → nat_lt known time ≡ false
not_due known time passed = grind (arith, nat_tests)

is_due : (known time : ℕ) → nat_le time known ≡ false → nat_lt known time ≡ true
is_due known time passed = grind (arith, nat_tests)

passed_rest : (known : ℕ) (ss : List Stamp) → is_first_passed known ss ≡ true → due_stamps known (drop 1 ss) ≡ due_stamps known ss
passed_rest known [] passed = refl
passed_rest known (s ∷ ss) passed = rw (not_due known s.time passed) refl

pub next_passed : (known : ℕ) (ss : List Stamp) (place : ℕ) → is_first_passed known (drop place ss) ≡ true → due_stamps known (drop (place + 1) ss) ≡ due_stamps known (drop place ss)
next_passed known ss place passed = ap (due_stamps known) (rest_of place ss) ∙ passed_rest known (drop place ss) passed

due_head : (known : ℕ) (ss : List Stamp) → is_first_passed known ss ≡ false → first_stamp ss ≡ first_stamp (due_stamps known ss)
due_head known [] due = refl
due_head known (s ∷ ss) due = rw (is_due known s.time due) refl

pub next_is : (known : ℕ) (ss : List Stamp) (from place : ℕ) → due_stamps known (drop place ss) ≡ due_stamps known (drop from ss) → is_first_passed known (drop place ss) ≡ false
    → IsNextDue known ss from place
next_is known ss from place left due = record { left = left; head = due_head known (drop place ss) due }

-- of a run whose times never fall, those up to a time stand before the others
pub partitioned : (known : ℕ) (ss : List Stamp) → TimesRise ss → (i j : ℕ) (d : Stamp) → i ≤ j → j < length ss → nat_le (get_or ss j d).time known ≡ true
    → nat_le (get_or ss i d).time known ≡ true
partitioned known [] rises i j d order low passed = absurd (omega arith)
partitioned known (s ∷ ss) rises zero zero d order low passed = passed
partitioned known (s ∷ ss) rises zero (suc j) d order low passed =
    earlier s.time (get_or ss j d).time (all_places (λ a. s.time ≤ a.time) ss rises.0 j d (omega arith)) passed
  where
    earlier : (t u : ℕ) → t ≤ u → nat_le u known ≡ true → nat_le t known ≡ true
    earlier t u lower passed = grind (arith, nat_tests)
partitioned known (s ∷ ss) rises (suc i) zero d order low passed = absurd (omega arith)
partitioned known (s ∷ ss) rises (suc i) (suc j) d order low passed = partitioned known ss rises.1 i j d (omega arith) (omega arith) passed

due_from : (known i : ℕ) (ss : List Stamp) → ((k : ℕ) (d : Stamp) → k < i → k < length ss → nat_le (get_or ss k d).time known ≡ true)
    → ((k : ℕ) (d : Stamp) → i ≤ k → k < length ss → nat_le (get_or ss k d).time known ≡ false)
    → (due_stamps known (drop i ss) ≡ due_stamps known ss) × (is_first_passed known (drop i ss) ≡ false)
due_from known zero [] before behind = (refl, refl)
due_from known (suc i) [] before behind = (refl, refl)
due_from known zero (s ∷ ss) before behind = (refl, behind 0 s (omega arith) (omega arith))
due_from known (suc i) (s ∷ ss) before behind =
    let rest = due_from known i ss (λ k d low inside. before (suc k) d (omega arith) (omega arith)) (λ k d high inside. behind (suc k) d (omega arith) (omega arith)) in
    let passed : nat_lt known s.time ≡ false = not_due known s.time (before 0 s (omega arith) (omega arith)) in
    (rest.0 ∙ sym (ap (λ b. cond b (s ∷ due_stamps known ss) (due_stamps known ss)) passed), rest.1)

pub point_is : (known : ℕ) (ss view : List Stamp) (place : ℕ) → ss ≡ view → IsPartitionPoint (λ s. nat_le s.time known ≡ true) (λ s. nat_le s.time known ≡ false) ss place
    → IsNextDue known view 0 place
point_is known ss view place shown point =
    let found = due_from known place ss (λ k d low inside. point.0 k d (omega arith) low) (λ k d high inside. point.1 k d high inside) in
    subst (λ xs. IsNextDue known xs 0 place) shown (next_is known ss 0 place found.0 found.1)
