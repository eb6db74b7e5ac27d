-- Sums over the numbers below n.
use Rattle.std.proofs.Common.{◌≡◌, ℕ, zero, suc, ◌+◌, ◌*◌, ◌<◌, ◌≤◌, sym, ◌∙◌, ap, arith, add-one}
use Rattle.std.proofs.Math.Nat.{mul-add}
use Rattle.helios_model.specs.Pairings.{sum_below, sum_below_more}

-- a bound on each term bounds the sum
pub sum_below-le : (c : ℕ) (f g h : ℕ → ℕ) (n : ℕ) → ((i : ℕ) → i < n → c * f i ≤ g i + h i) → c * sum_below f n ≤ sum_below g n + sum_below h n
sum_below-le c f g h zero bound = omega arith
sum_below-le c f g h (suc n) bound =
    let before : c * sum_below f n ≤ sum_below g n + sum_below h n = sum_below-le c f g h n (λ i low. bound i (omega arith)) in
    let last : c * f n ≤ g n + h n = bound n (omega arith) in
    let split : c * (sum_below f n + f n) ≡ c * sum_below f n + c * f n = mul-add c (sum_below f n) (f n) in
    let more_f : c * sum_below f (suc n) ≡ c * (sum_below f n + f n) = ap (λ m. c * sum_below f m) (sym (add-one n)) ∙ ap (λ m. c * m) (sum_below_more f n) in
    let more_g : sum_below g (suc n) ≡ sum_below g n + g n = ap (sum_below g) (sym (add-one n)) ∙ sum_below_more g n in
    let more_h : sum_below h (suc n) ≡ sum_below h n + h n = ap (sum_below h) (sym (add-one n)) ∙ sum_below_more h n in
    omega arith
