-- Pairings of the sites by places, and the bound of latencies that one gives.
use Rattle.std.specs.Prelude.{◌≡◌, ◌≢◌, ◌↔◌, ℕ, ◌+◌, ◌*◌, ◌<◌, ◌≤◌, List, length, map, sum, slice_index}
use Rattle.std.specs.List.{range_with_len}
use Rattle.std.specs.List.Sorted.{IsPermutation}
use Rattle.std.proofs.Common.{refl, sym, ◌∙◌, ap, zero-add}
use Rattle.std.proofs.lemmas.List.FromFn.{map-range_with_len_more, fill_by_all}
use Rattle.std.proofs.lemmas.List.Sums.{sum_by_push}
use Rattle.helios_model.specs.Optimal.{IsCertificate, IsOptimal}
use Rattle.helios_model.specs.Plans.{PlanData, IsAccepted}

-- the sum of f over the numbers below n
abbrev pub sum_below : (ℕ → ℕ) → ℕ → ℕ
sum_below f n = sum (map f (range_with_len 0 n))

pub sum_below_more : (f : ℕ → ℕ) (n : ℕ) → sum_below f (n + 1) ≡ sum_below f n + f n
sum_below_more f n = ap sum (map-range_with_len_more f 0 n n (zero-add n)) ∙ sum_by_push (λ x. x) (map f (range_with_len 0 n)) (f n)

-- a list's sum is that of its items by place
pub sum_below-items : (xs : List ℕ) → sum_below (λ i. slice_index xs i) (length xs) ≡ sum xs
sum_below-items xs = ap sum (sym (fill_by_all (λ i. slice_index xs i) xs (length xs) 0 refl (λ k within. refl)))

-- each of n sites has a partner, and no two have the same
pub record IsPairing (n : ℕ) (pair : List ℕ) : Type 0 where
  pub size : length pair ≡ n
  pub sites : (i : ℕ) → i < n → slice_index pair i < n
  pub apart : (i j : ℕ) → i < j → j < n → slice_index pair i ≢ slice_index pair j

-- a pairing is the list of the sites in some order
abbrev pub PairingsAreOrders : Type 0
PairingsAreOrders = (n : ℕ) (pair : List ℕ) → IsPermutation (range_with_len 0 n) pair ↔ IsPairing n pair

-- the numbers of all partners are the numbers of all sites
abbrev pub PartnersAddUp : Type 0
PartnersAddUp = (n : ℕ) (pair numbers : List ℕ) → IsPairing n pair → length numbers ≡ n → sum_below (λ i. slice_index numbers (slice_index pair i)) n ≡ sum numbers

-- numbers of which those of any two sites reach twice k times their round trip add up to k times the round trips to the partners at least
abbrev pub PairingsBound : Type 0
PairingsBound = (trip : ℕ → ℕ → ℕ) (n k : ℕ) (pair numbers : List ℕ) → IsPairing n pair → length numbers ≡ n → ((i : ℕ) → i < n → trip i i ≡ 0)
    → ((i j : ℕ) → i < n → j < n → i ≢ j → 2 * k * trip i j ≤ slice_index numbers i + slice_index numbers j)
    → k * sum_below (λ i. trip i (slice_index pair i)) n ≤ sum numbers

-- an accepted plan with a certificate is optimal
abbrev pub CertificatesShowOptimal : Type 0
CertificatesShowOptimal = (plan : PlanData) (pair : List ℕ) → IsAccepted plan → IsCertificate plan pair → IsOptimal plan
