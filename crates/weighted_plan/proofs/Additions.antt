-- Sums over the numbers below n.
use Rattle.std.proofs.Common.{◌≡◌, inl, inr, ℕ, zero, suc, ◌+◌, ◌*◌, ◌<◌, ◌≤◌, refl, sym, ◌∙◌, ap, arith, add-one}
use Rattle.std.proofs.lemmas.Bool.{cases_eq}
use Rattle.std.proofs.Math.Nat.{mul-add}
use Rattle.helios_model.specs.Pairings.{sum_below, sum_below_more}

pub sum_suc : (f : ℕ → ℕ) (n : ℕ) → sum_below f (suc n) ≡ sum_below f n + f n
sum_suc f n = ap (sum_below f) (sym (add-one n)) ∙ sum_below_more f n

-- term by term
pub same_sum : (f g : ℕ → ℕ) (n : ℕ) → ((i : ℕ) → i < n → f i ≡ g i) → sum_below f n ≡ sum_below g n
same_sum f g zero same = refl
same_sum f g (suc n) same =
    let before : sum_below f n ≡ sum_below g n = same_sum f g n (λ i low. same i (omega arith)) in
    let last : f n ≡ g n = same n (omega arith) in
    let more_f : sum_below f (suc n) ≡ sum_below f n + f n = sum_suc f n in
    let more_g : sum_below g (suc n) ≡ sum_below g n + g n = sum_suc g n in
    omega arith

pub split_sum : (f g h : ℕ → ℕ) (n : ℕ) → ((i : ℕ) → i < n → f i ≡ g i + h i) → sum_below f n ≡ sum_below g n + sum_below h n
split_sum f g h zero split = refl
split_sum f g h (suc n) split =
    let before : sum_below f n ≡ sum_below g n + sum_below h n = split_sum f g h n (λ i low. split i (omega arith)) in
    let last : f n ≡ g n + h n = split n (omega arith) in
    let more_f : sum_below f (suc n) ≡ sum_below f n + f n = sum_suc f n in
    let more_g : sum_below g (suc n) ≡ sum_below g n + g n = sum_suc g n in
    let more_h : sum_below h (suc n) ≡ sum_below h n + h n = sum_suc h n in
    omega arith

-- a bound on each term bounds the sum
pub sum_bounded : (c : ℕ) (f g h : ℕ → ℕ) (n : ℕ) → ((i : ℕ) → i < n → c * f i ≤ g i + h i) → c * sum_below f n ≤ sum_below g n + sum_below h n
sum_bounded c f g h zero bound = omega arith
sum_bounded c f g h (suc n) bound =
    let before : c * sum_below f n ≤ sum_below g n + sum_below h n = sum_bounded c f g h n (λ i low. bound i (omega arith)) in
    let last : c * f n ≤ g n + h n = bound n (omega arith) in
    let split : c * (sum_below f n + f n) ≡ c * sum_below f n + c * f n = mul-add c (sum_below f n) (f n) in
    let more_f : c * sum_below f (suc n) ≡ c * (sum_below f n + f n) = ap (λ m. c * m) (sum_suc f n) in
    let more_g : sum_below g (suc n) ≡ sum_below g n + g n = sum_suc g n in
    let more_h : sum_below h (suc n) ≡ sum_below h n + h n = sum_suc h n in
    omega arith

-- a factor of each term is one of the sum
pub scaled_sum : (c : ℕ) (f : ℕ → ℕ) (n : ℕ) → sum_below (λ i. c * f i) n ≡ c * sum_below f n
scaled_sum c f zero = omega arith
scaled_sum c f (suc n) =
    let before : sum_below (λ i. c * f i) n ≡ c * sum_below f n = scaled_sum c f n in
    let split : c * (sum_below f n + f n) ≡ c * sum_below f n + c * f n = mul-add c (sum_below f n) (f n) in
    let more_f : c * sum_below f (suc n) ≡ c * (sum_below f n + f n) = ap (λ m. c * m) (sum_suc f n) in
    let more : sum_below (λ i. c * f i) (suc n) ≡ sum_below (λ i. c * f i) n + c * f n = sum_suc (λ i. c * f i) n in
    omega arith

pub no_sum : (f : ℕ → ℕ) (n : ℕ) → ((i : ℕ) → i < n → f i ≡ 0) → sum_below f n ≡ 0
no_sum f zero none = refl
no_sum f (suc n) none =
    let before : sum_below f n ≡ 0 = no_sum f n (λ i low. none i (omega arith)) in
    let last : f n ≡ 0 = none n (omega arith) in
    let more : sum_below f (suc n) ≡ sum_below f n + f n = sum_suc f n in
    omega arith

-- the sum by rows is the sum by columns
pub exchanged_sums : (f : ℕ → ℕ → ℕ) (n m : ℕ) → sum_below (λ i. sum_below (f i) m) n ≡ sum_below (λ j. sum_below (λ i. f i j) n) m
exchanged_sums f zero m = sym (no_sum (λ j. sum_below (λ i. f i j) 0) m (λ j low. refl))
exchanged_sums f (suc n) m =
    let before : sum_below (λ i. sum_below (f i) m) n ≡ sum_below (λ j. sum_below (λ i. f i j) n) m = exchanged_sums f n m in
    let more : sum_below (λ i. sum_below (f i) m) (suc n) ≡ sum_below (λ i. sum_below (f i) m) n + sum_below (f n) m = sum_suc (λ i. sum_below (f i) m) n in
    let split : sum_below (λ j. sum_below (λ i. f i j) (suc n)) m ≡ sum_below (λ j. sum_below (λ i. f i j) n) m + sum_below (f n) m =
    split_sum (λ j. sum_below (λ i. f i j) (suc n)) (λ j. sum_below (λ i. f i j) n) (f n) m (λ j low. sum_suc (λ i. f i j) n) in
    omega arith

-- one term changes
pub changed_sum : (f g : ℕ → ℕ) (c n : ℕ) → c < n → ((i : ℕ) → i < n → (i ≡ c → ⊥) → g i ≡ f i) → sum_below g n + f c ≡ sum_below f n + g c
changed_sum f g c zero within others = absurd (omega arith)
changed_sum f g c (suc n) within others =
    let more_f : sum_below f (suc n) ≡ sum_below f n + f n = sum_suc f n in
    let more_g : sum_below g (suc n) ≡ sum_below g n + g n = sum_suc g n in
    elim (cases_eq n c) [
      | inl last ↦ (
          let before : sum_below g n ≡ sum_below f n = same_sum g f n (λ i low. others i (omega arith) (λ same. absurd (omega arith))) in
          let f_is : f n ≡ f c = ap f last in
          let g_is : g n ≡ g c = ap g last in
          omega arith)
      | inr other ↦ (
          let before : sum_below g n + f c ≡ sum_below f n + g c = changed_sum f g c n (omega arith) (λ i low apart. others i (omega arith) apart) in
          let same : g n ≡ f n = others n (omega arith) other in
          omega arith)
    ]

-- no term is over the sum
pub term_bounded : (f : ℕ → ℕ) (n i : ℕ) → i < n → f i ≤ sum_below f n
term_bounded f zero i low = absurd (omega arith)
term_bounded f (suc n) i low =
    let more : sum_below f (suc n) ≡ sum_below f n + f n = sum_suc f n in
    elim (cases_eq i n) [
      | inl last ↦ (let is : f i ≡ f n = ap f last in omega arith)
      | inr other ↦ (let before : f i ≤ sum_below f n = term_bounded f n i (omega arith) in omega arith)
    ]
