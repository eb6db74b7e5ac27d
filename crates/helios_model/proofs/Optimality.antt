-- A pairing of the sites whose round trips add up to the latencies shows that no plan has a smaller sum.
use Rattle.std.proofs.Common.{◌≡◌, ◌≢◌, ℕ, ◌+◌, ◌*◌, ◌<◌, ◌≤◌, List, [], ◌∷◌, length, map, get_or, refl, sym, ◌∙◌, ap, arith}
use Rattle.std.specs.List.{sum, sum_by, range_with_len}
use Rattle.std.specs.List.Sorted.{IsPermutation}
use Rattle.std.proofs.lemmas.List.FromFn.{fill_by_all, length-range_with_len}
use Rattle.std.proofs.lemmas.List.Sorted.{sum_by-IsPermutation, length_permutation}
use Rattle.std.proofs.lemmas.List.Sums.{sum-map, sum_by-cons}
use Rattle.std.proofs.lemmas.Bool.{eqb-true, eqb-false}
use Rattle.std.proofs.Math.Nat.{mul-zero}
use lib.Dec.{eqb}
use mathlib.Core.Bool.{true, false}
use Rattle.helios_model.specs.Plans.{PlanData, IsAccepted, count_of, rtt}
use Rattle.helios_model.specs.Optimal.{IsCertificate, IsOptimal}
use Rattle.helios_model.specs.Pairings.{sum_below, sum_below-items, IsPairing, PairingsAreOrders, PartnersAddUp, PairingsBound}
use Rattle.helios_model.proofs.Permutations.{below_from_permutation, apart_from_permutation, permutation_from_apart}
use Rattle.helios_model.proofs.Sums.{sum_below-le}

-- a sum over images is the sum of the composed function
sum_by-map : (f g : ℕ → ℕ) (xs : List ℕ) → sum_by f (map g xs) ≡ sum_by (λ x. f (g x)) xs
sum_by-map f g [] = refl
sum_by-map f g (x ∷ xs) =
    let whole : sum_by f (g x ∷ map g xs) ≡ f (g x) + sum_by f (map g xs) = sum_by-cons f (g x) (map g xs) in
    let parts : sum_by (λ y. f (g y)) (x ∷ xs) ≡ f (g x) + sum_by (λ y. f (g y)) xs = sum_by-cons (λ y. f (g y)) x xs in
    whole ∙ ap (λ m. f (g x) + m) (sum_by-map f g xs) ∙ sym parts

-- over a permutation of the places, the partners' numbers add up to all numbers
partners_sum : (n : ℕ) (pairs p : List ℕ) → length p ≡ n → IsPermutation (range_with_len 0 n) pairs → sum_below (λ i. get_or p (get_or pairs i 0) 0) n ≡ sum p
partners_sum n pairs p long order =
    let f : ℕ → ℕ = λ j. get_or p j 0 in
    let pairs_long : length pairs ≡ n = length_permutation (range_with_len 0 n) pairs order ∙ length-range_with_len 0 n in
    let as_pairs : pairs ≡ map (λ i. get_or pairs i 0) (range_with_len 0 n) = fill_by_all (λ i. get_or pairs i 0) pairs n 0 pairs_long (λ k within. refl) in
    let one : sum_below (λ i. f (get_or pairs i 0)) n ≡ sum_by (λ i. f (get_or pairs i 0)) (range_with_len 0 n) = sum-map (λ i. f (get_or pairs i 0)) (range_with_len 0 n) in
    let two : sum_by f (map (λ i. get_or pairs i 0) (range_with_len 0 n)) ≡ sum_by (λ i. f (get_or pairs i 0)) (range_with_len 0 n) = sum_by-map f (λ i. get_or pairs i 0) (range_with_len 0 n) in
    let three : sum_by f pairs ≡ sum_by f (range_with_len 0 n) = sum_by-IsPermutation f (range_with_len 0 n) pairs order in
    let four : sum_by f (range_with_len 0 n) ≡ sum_below f n = sym (sum-map f (range_with_len 0 n)) in
    let five : sum_below f n ≡ sum p = ap (sum_below f) (sym long) ∙ sum_below-items p in
    one ∙ sym two ∙ ap (sum_by f) (sym as_pairs) ∙ three ∙ four ∙ five

-- twice k times the paired round trips is at most twice the sum of numbers that reach them
pairing_bound : (trip : ℕ → ℕ → ℕ) (n k : ℕ) (pairs p : List ℕ) → length p ≡ n → IsPermutation (range_with_len 0 n) pairs → ((i : ℕ) → i < n → trip i i ≡ 0) → ((i : ℕ) → i < n → get_or pairs i 0 < n) → ((i j : ℕ) → i < n → j < n → i ≢ j → 2 * k * trip i j ≤ get_or p i 0 + get_or p j 0) → k * sum_below (λ i. trip i (get_or pairs i 0)) n ≤ sum p
pairing_bound trip n k pairs p long order zero_self low reach =
    let f : ℕ → ℕ = λ i. trip i (get_or pairs i 0) in
    let each : (i : ℕ) → i < n → 2 * k * f i ≤ get_or p i 0 + get_or p (get_or pairs i 0) 0 = λ i within.
    elim (eqb i (get_or pairs i 0)) as (λ b. eqb i (get_or pairs i 0) ≡ b → 2 * k * f i ≤ get_or p i 0 + get_or p (get_or pairs i 0) 0) [
      | true ↦ λ same. (
          let none : f i ≡ 0 = ap (trip i) (sym (eqb-true i (get_or pairs i 0) same)) ∙ zero_self i within in
          let nothing : 2 * k * f i ≡ 0 = ap (λ m. 2 * k * m) none ∙ mul-zero (2 * k) in
          omega arith)
      | false ↦ λ other. reach i (get_or pairs i 0) within (low i within) (eqb-false i (get_or pairs i 0) other)
    ] refl in
    let total : 2 * k * sum_below f n ≤ sum_below (λ i. get_or p i 0) n + sum_below (λ i. get_or p (get_or pairs i 0) 0) n =
    sum_below-le (2 * k) f (λ i. get_or p i 0) (λ i. get_or p (get_or pairs i 0) 0) n each in
    let own : sum_below (λ i. get_or p i 0) n ≡ sum p = ap (sum_below (λ i. get_or p i 0)) (sym long) ∙ sum_below-items p in
    let partners : sum_below (λ i. get_or p (get_or pairs i 0) 0) n ≡ sum p = partners_sum n pairs p long order in
    omega arith

-- an accepted plan with a certificate is optimal
pub certificate_shows_optimal : (plan : PlanData) (pair : List ℕ) → IsAccepted plan → IsCertificate plan pair → IsOptimal plan
certificate_shows_optimal plan pair accepted certificate k others some long reach =
    let n : ℕ = count_of plan in
    let low : (i : ℕ) → i < n → get_or pair i 0 < n = below_from_permutation n pair certificate.pairing in
    let bound : k * sum_below (λ i. rtt plan i (get_or pair i 0)) n ≤ sum others =
    pairing_bound (rtt plan) n k pair others long certificate.pairing accepted.limits.matrix.diagonal low reach in
    let value : k * sum plan.latencies ≡ k * sum_below (λ i. rtt plan i (get_or pair i 0)) n = ap (λ m. k * m) certificate.value in
    omega arith

order_of : (n : ℕ) (pair : List ℕ) → IsPairing n pair → IsPermutation (range_with_len 0 n) pair
order_of n pair pairing = permutation_from_apart n pair pairing.size pairing.sites (λ i j before within. pairing.apart i j before (let size : length pair ≡ n = pairing.size in omega arith))

pub pairings_are_orders : PairingsAreOrders
pairings_are_orders n pair = (
  (λ order.
      let size : length pair ≡ n = length_permutation (range_with_len 0 n) pair order ∙ length-range_with_len 0 n in
      record {
        size = size;
        sites = below_from_permutation n pair order;
        apart = λ i j before within. apart_from_permutation n pair order i j before (omega arith);
      }),
  order_of n pair,
)

pub partners_add_up : PartnersAddUp
partners_add_up n pair numbers pairing long = partners_sum n pair numbers long (order_of n pair pairing)

pub pairings_bound : PairingsBound
pairings_bound trip n k pair numbers pairing long zero_self reach = pairing_bound trip n k pair numbers long (order_of n pair pairing) zero_self pairing.sites reach
