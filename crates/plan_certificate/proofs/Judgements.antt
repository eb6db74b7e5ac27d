-- What is said of a plan and a pairing is said by one verdict alone.
use Rattle.std.proofs.Common.{◌≡◌, inl, inr, ℕ, ◌+◌, ◌<◌, Bool, true, false, ◌||◌, cond, List, length, get_or, refl, sym, ◌∙◌, ap, arith}
use Rattle.std.specs.Prelude.{nat_le, ◌==◌}
use Rattle.std.specs.List.{list_any, range_with_len, sum}
use Rattle.std.proofs.lemmas.Bool.{cases_lt, le-leb, lt-leb, eq-eqb, ne_eqb}
use Rattle.std.proofs.lemmas.List.Elements.{All-from_get_or}
use Rattle.std.proofs.lemmas.List.Folds.{list_any_at, list_any_none}
use Rattle.std.proofs.lemmas.List.FromFn.{get_or-range_with_len, length-range_with_len}
use Rattle.helios_model.specs.Pairings.{IsPairing, PairingsAreOrders}
use Rattle.helios_model.specs.Passing.{EachSearchFindsFirst}
use Rattle.helios_model.specs.Short.{EachShortPairIsFound}
use Rattle.helios_model.specs.Optimal.{pair_value}
use Rattle.helios_model.specs.Plans.{PlanData, count_of}
use Rattle.plan_certificate.specs.Judgement.{is_unpaired, weighed, paired, judged, verdict_of}
use Rattle.plan_certificate.specs.Says.{Says}
use Rattle.plan_certificate.specs.Verdict.{IsUnpaired}
use Rattle.plan_certificate.specs.declared.verdict.Verdict.{Verdict}
use Rattle.plan_certificate.specs.declared.verdict.Verdict.TheVariants as verdicts

first_of_either : (b c : Bool) → b ≡ true → (b || c) ≡ true
first_of_either true c first = refl
first_of_either false c first = cc

second_of_either : (b c : Bool) → c ≡ true → (b || c) ≡ true
second_of_either true c second = refl
second_of_either false c second = second

neither : (b c : Bool) → b ≡ false → c ≡ false → (b || c) ≡ false
neither true c first second = cc
neither false c first second = second

-- whether the partner at a place is that at another
abbrev repeats : List ℕ → ℕ → ℕ → Bool
repeats pair place k = get_or pair k 0 == get_or pair place 0

place_is : (n i : ℕ) → i < n → get_or (range_with_len 0 n) i 0 ≡ i
place_is n i low = (let at : get_or (range_with_len 0 n) i 0 ≡ 0 + i = get_or-range_with_len 0 n i 0 low in omega arith)

within_range : (n i : ℕ) → i < n → i < length (range_with_len 0 n)
within_range n i low = (let long : length (range_with_len 0 n) ≡ n = length-range_with_len 0 n in omega arith)

unpaired_test : (count : ℕ) (pair : List ℕ) (place : ℕ) → IsUnpaired count pair place → is_unpaired count pair place ≡ true
unpaired_test count pair place unpaired = elim unpaired [
  | inl high ↦ first_of_either (nat_le count (get_or pair place 0)) (list_any (repeats pair place) (range_with_len 0 place)) (le-leb count (get_or pair place 0) high)
  | inr earlier ↦ second_of_either (nat_le count (get_or pair place 0)) (list_any (repeats pair place) (range_with_len 0 place))
      (list_any_at (repeats pair place) (range_with_len 0 place) earlier.0 0 (within_range place earlier.0 earlier.1)
      (ap (repeats pair place) (place_is place earlier.0 earlier.1) ∙ eq-eqb (get_or pair earlier.0 0) (get_or pair place 0) earlier.2))
]

paired_test : (count : ℕ) (pair : List ℕ) (place : ℕ) → (IsUnpaired count pair place → ⊥) → is_unpaired count pair place ≡ false
paired_test count pair place paired' = neither (nat_le count (get_or pair place 0)) (list_any (repeats pair place) (range_with_len 0 place))
    (elim (cases_lt (get_or pair place 0) count) [ inl low ↦ lt-leb count (get_or pair place 0) low | inr high ↦ absurd (paired' (inl high)) ])
    (list_any_none (repeats pair place) (range_with_len 0 place) (All-from_get_or (λ k. repeats pair place k ≡ false) (range_with_len 0 place) 0 (λ k within.
    let before : k < place = (let long : length (range_with_len 0 place) ≡ place = length-range_with_len 0 place in omega arith) in
    ap (repeats pair place) (place_is place k before) ∙ ne_eqb (get_or pair k 0) (get_or pair place 0) (λ same. paired' (inr (k, before, same))))))

-- in a pairing each partner is a site, and that of no earlier one
pairing_pairs : (n : ℕ) (pair : List ℕ) → IsPairing n pair → (k : ℕ) → k < n → IsUnpaired n pair k → ⊥
pairing_pairs n pair pairing k low unpaired = elim unpaired [
  | inl high ↦ (let below : get_or pair k 0 < n = pairing.sites k low in omega arith)
  | inr earlier ↦ pairing.apart earlier.0 k earlier.1 low earlier.2
]

-- the verdict that says what stands is the one that the plan and the pairing have
pub verdict_is : EachSearchFindsFirst → EachShortPairIsFound → PairingsAreOrders
    → (plan : PlanData) (pair : List ℕ) (verdict : Verdict) → length pair ≡ count_of plan → Says plan pair verdict → verdict ≡ verdict_of plan pair
unfolding verdict_of
verdict_is finds shorts orders plan pair (verdicts.Short i j) long says = sym (ap (judged plan pair) ((shorts plan).found i j says))
verdict_is finds shorts orders plan pair (verdicts.NoPairing i) long says = sym (
    ap (judged plan pair) ((shorts plan).none says.0)
    ∙ ap (paired plan pair) ((finds (is_unpaired (count_of plan) pair) (count_of plan)).found i (let low : i < length pair = says.1.within in omega arith)
    (unpaired_test (count_of plan) pair i says.1.unpaired) (λ k before. paired_test (count_of plan) pair k (says.1.before k before))))
verdict_is finds shorts orders plan pair (verdicts.ValueDiffers given value) long says = sym (
    ap (judged plan pair) ((shorts plan).none says.0)
    ∙ ap (paired plan pair) ((finds (is_unpaired (count_of plan) pair) (count_of plan)).none (λ k low. paired_test (count_of plan) pair k (says.1 k (omega arith))))
    ∙ ap (λ n. weighed n (pair_value plan pair)) (sym says.2)
    ∙ ap (weighed given) (sym says.3)
    ∙ ap (λ b. cond b (verdicts.Optimal given) (verdicts.ValueDiffers given value)) (ne_eqb given value says.4))
verdict_is finds shorts orders plan pair (verdicts.Optimal total) long says = sym (
    ap (judged plan pair) ((shorts plan).none says.0)
    ∙ ap (paired plan pair) ((finds (is_unpaired (count_of plan) pair) (count_of plan)).none (λ k low. paired_test (count_of plan) pair k
    (pairing_pairs (count_of plan) pair ((orders (count_of plan) pair).0 says.1.pairing) k low)))
    ∙ ap (λ b. cond b (verdicts.Optimal (sum plan.latencies)) (verdicts.ValueDiffers (sum plan.latencies) (pair_value plan pair))) (eq-eqb (sum plan.latencies) (pair_value plan pair) says.1.value)
    ∙ ap verdicts.Optimal (sym says.2))
