-- The first number below a bound that passes a test.
use Rattle.std.proofs.Common.{◌≡◌, ℕ, zero, suc, ◌+◌, ◌<◌, Bool, true, false, cond, Some, None, refl, sym, ◌∙◌, ap, arith}
use Rattle.std.specs.List.{find, range_with_len}

first_from : (p : ℕ → Bool) (a m i : ℕ) → i < m → p (a + i) ≡ true → ((k : ℕ) → k < i → p (a + k) ≡ false) → find p (range_with_len a m) ≡ Some (a + i)
first_from p a zero i low here before = absurd (omega arith)
first_from p a (suc m) zero low here before =
    let start : a + 0 ≡ a = omega arith in
    let passes : p a ≡ true = ap p (sym start) ∙ here in
    ap (λ b. cond b (Some a) (find p (range_with_len (a + 1) m))) passes ∙ ap Some (sym start)
first_from p a (suc m) (suc i) low here before =
    let start : a + 0 ≡ a = omega arith in
    let fails : p a ≡ false = ap p (sym start) ∙ before 0 (omega arith) in
    let moved : a + suc i ≡ (a + 1) + i = omega arith in
    ap (λ b. cond b (Some a) (find p (range_with_len (a + 1) m))) fails
    ∙ first_from p (a + 1) m i (omega arith) (ap p (sym moved) ∙ here) (λ k lower. (let next : (a + 1) + k ≡ a + suc k = omega arith in ap p next ∙ before (suc k) (omega arith)))
    ∙ ap Some (sym moved)

none_from : (p : ℕ → Bool) (a m : ℕ) → ((k : ℕ) → k < m → p (a + k) ≡ false) → find p (range_with_len a m) ≡ None
none_from p a zero none = refl
none_from p a (suc m) none =
    let start : a + 0 ≡ a = omega arith in
    let fails : p a ≡ false = ap p (sym start) ∙ none 0 (omega arith) in
    ap (λ b. cond b (Some a) (find p (range_with_len (a + 1) m))) fails
    ∙ none_from p (a + 1) m (λ k lower. (let next : (a + 1) + k ≡ a + suc k = omega arith in ap p next ∙ none (suc k) (omega arith)))

-- the number passes, and none before it does
pub find_first : (p : ℕ → Bool) (n i : ℕ) → i < n → p i ≡ true → ((k : ℕ) → k < i → p k ≡ false) → find p (range_with_len 0 n) ≡ Some i
find_first p n i low here before =
    let start : 0 + i ≡ i = omega arith in
    first_from p 0 n i low (ap p start ∙ here) (λ k lower. (let same : 0 + k ≡ k = omega arith in ap p same ∙ before k lower)) ∙ ap Some start

-- none passes
pub find_none : (p : ℕ → Bool) (n : ℕ) → ((k : ℕ) → k < n → p k ≡ false) → find p (range_with_len 0 n) ≡ None
find_none p n none = none_from p 0 n (λ k lower. (let same : 0 + k ≡ k = omega arith in ap p same ∙ none k lower))

fails_with_head : (p : ℕ → Bool) (a m : ℕ) (b : Bool) → p a ≡ b → find p (range_with_len a (suc m)) ≡ None → (find p (range_with_len (a + 1) m) ≡ None → (k : ℕ) → k < m → p ((a + 1) + k) ≡ false) → (k : ℕ) → k < suc m → p (a + k) ≡ false
fails_with_head p a m true passes none rest k low =
    let found : find p (range_with_len a (suc m)) ≡ Some a = ap (λ b. cond b (Some a) (find p (range_with_len (a + 1) m))) passes in
    cc
fails_with_head p a m false fails none rest zero low = (let start : a + 0 ≡ a = omega arith in ap p start ∙ fails)
fails_with_head p a m false fails none rest (suc j) low =
    let moved : a + suc j ≡ (a + 1) + j = omega arith in
    ap p moved ∙ rest (sym (ap (λ b. cond b (Some a) (find p (range_with_len (a + 1) m))) fails) ∙ none) j (omega arith)

fails_from : (p : ℕ → Bool) (a m : ℕ) → find p (range_with_len a m) ≡ None → (k : ℕ) → k < m → p (a + k) ≡ false
fails_from p a zero none k low = absurd (omega arith)
fails_from p a (suc m) none k low = fails_with_head p a m (p a) refl none (fails_from p (a + 1) m) k low

-- where none passes, each fails
pub fails_below : (test : ℕ → Bool) (bound : ℕ) → find test (range_with_len 0 bound) ≡ None → (k : ℕ) → k < bound → test k ≡ false
fails_below test bound none k low = (let start : k ≡ 0 + k = omega arith in ap test start ∙ fails_from test 0 bound none k low)
