-- Latencies that are the sums of potentials make an accepted plan, and the flow is its certificate.
use Rattle.std.proofs.Common.{◌≡◌, inl, inr, ℕ, ◌+◌, ◌*◌, ◌<◌, ◌≤◌, ◌/◌, ◌%◌, List, length, get_or, refl, sym, ◌∙◌, ap, subst, arith}
use Rattle.std.proofs.lemmas.Bool.{cases_lt}
use Rattle.std.proofs.lemmas.List.Elements.{All-from_get_or}
use Rattle.std.proofs.lemmas.Nat.{div_below, div-add-mod'}
use Rattle.std.proofs.Math.Nat.{add-mul, mul-add, mul-zero}
use Rattle.helios_model.specs.Grid.{at}
use Rattle.helios_model.specs.Limits.{greatest_latency, longest_trip}
use Rattle.helios_model.specs.Pairings.{sum_below}
use Rattle.helios_model.specs.Passing.{EachSearchFindsFirst}
use Rattle.helios_model.specs.Plans.{MatrixData, PlanData, IsAccepted, IsMatrix, IsPlan}
use Rattle.helios_model.specs.Short.{EachShortPairIsFound}
use Rattle.weighted_plan.specs.Flows.{flow_value, row_sum, AreUnits, FlowsShowOptimal, IsBalanced, IsFlowCertificate}
use Rattle.weighted_plan.specs.Transport.{IsTransported}
use Rattle.weighted_plan.specs.Trips.{count_of, distance}
use Rattle.weighted_plan.specs.Verdict.{verdict_of}
use Rattle.weighted_plan.specs.Weighted.{greatest_weight, weighted_sum, AreWeights, IsWeight, IsWeightedOptimal}
use Rattle.weighted_plan.specs.declared.verdict.WeightedVerdict.TheVariants as verdicts
use Rattle.weighted_plan.proofs.Additions.{split_sum}
use Rattle.weighted_plan.proofs.Duality.{by_columns, by_rows}
use Rattle.weighted_plan.proofs.Judgements.{verdict_is}
use Rattle.weighted_plan.proofs.Puts.{at_row_bounded}
use Rattle.std.proofs.lemmas.List.Elements.{All-get_or}

abbrev pub planned : MatrixData → List ℕ → PlanData
planned m latencies = record { names = m.names; trips = m.trips; latencies = latencies }

module _ (m : MatrixData) (w u v flow latencies : List ℕ) (limits : IsMatrix m.names m.trips) (sized : length w ≡ count_of m) (done : IsTransported (count_of m) (distance m) w u v flow) (long : length latencies ≡ length u) (sums : (i : ℕ) → i < length u → get_or latencies i 0 ≡ get_or u i 0 + get_or v i 0) where
  latency_is : (i : ℕ) → i < count_of m → get_or latencies i 0 ≡ get_or u i 0 + get_or v i 0
  latency_is i low = sums i (let size : length u ≡ count_of m = done.feasible.rows in omega arith)

  -- no latency passes its limit
  pub is_plan : IsPlan m.names m.trips latencies
  is_plan = record {
    matrix = limits;
    planned = long ∙ done.feasible.rows;
    bounded = All-from_get_or (λ half_micros. half_micros ≤ greatest_latency) latencies 0 (λ i within. (
        let low : i < count_of m = (let size : length u ≡ count_of m = done.feasible.rows in omega (arith, long)) in
        let is : get_or latencies i 0 ≡ get_or u i 0 + get_or v i 0 = latency_is i low in
        let first : get_or u i 0 ≤ longest_trip = done.feasible.small_rows i low in
        let second : get_or v i 0 ≤ longest_trip = done.feasible.small_columns i low in
        omega arith));
  }

  -- any two latencies reach the round trip there and back
  pub is_accepted : IsAccepted (planned m latencies)
  is_accepted = record {
    limits = is_plan;
    reached = λ i j first second apart. (
        let there : distance m i j ≤ get_or u i 0 + get_or v j 0 = done.feasible.reached i j first second in
        let back : distance m j i ≤ get_or u j 0 + get_or v i 0 = done.feasible.reached j i second first in
        let same : distance m i j ≡ distance m j i = limits.symmetric i j first second in
        let first_is : get_or latencies i 0 ≡ get_or u i 0 + get_or v i 0 = latency_is i first in
        let second_is : get_or latencies j 0 ≡ get_or u j 0 + get_or v j 0 = latency_is j second in
        omega arith);
  }

  balanced : (i : ℕ) → i < count_of m → IsBalanced (count_of m) w flow i
  balanced i low = (done.sent i low, done.taken i low)

  -- each unit flows over a round trip that is the sum of its potentials
  tight_units : (i j : ℕ) → i < count_of m → j < count_of m → distance m i j * at (count_of m) flow i j ≡ get_or u i 0 * at (count_of m) flow i j + get_or v j 0 * at (count_of m) flow i j
  tight_units i j row column = elim (cases_lt (at (count_of m) flow i j) 1) [
    | inl none ↦ (
        let zero_units : at (count_of m) flow i j ≡ 0 = omega arith in
        let left : distance m i j * at (count_of m) flow i j ≡ 0 = ap (λ x. distance m i j * x) zero_units ∙ mul-zero (distance m i j) in
        let first : get_or u i 0 * at (count_of m) flow i j ≡ 0 = ap (λ x. get_or u i 0 * x) zero_units ∙ mul-zero (get_or u i 0) in
        let second : get_or v j 0 * at (count_of m) flow i j ≡ 0 = ap (λ x. get_or v j 0 * x) zero_units ∙ mul-zero (get_or v j 0) in
        omega arith)
    | inr some ↦ ap (λ x. x * at (count_of m) flow i j) (sym (done.tight i j row column some)) ∙ add-mul (get_or u i 0) (get_or v j 0) (at (count_of m) flow i j)
  ]

  -- the weighted latencies are the round trips that the units flow over
  value_is : weighted_sum w latencies ≡ flow_value (planned m latencies) flow
  value_is =
      let n : ℕ = count_of m in
      let rows : ℕ → ℕ = λ i. sum_below (λ j. get_or u i 0 * at n flow i j) n in
      let columns : ℕ → ℕ = λ i. sum_below (λ j. get_or v j 0 * at n flow i j) n in
      let split : flow_value (planned m latencies) flow ≡ sum_below rows n + sum_below columns n =
      split_sum (λ i. sum_below (λ j. distance m i j * at n flow i j) n) rows columns n (λ i row.
      split_sum (λ j. distance m i j * at n flow i j) (λ j. get_or u i 0 * at n flow i j) (λ j. get_or v j 0 * at n flow i j) n (λ j column. tight_units i j row column)) in
      let by_u : sum_below rows n ≡ sum_below (λ i. get_or w i 0 * get_or u i 0) n = by_rows n w flow balanced (λ i. get_or u i 0) in
      let by_v : sum_below columns n ≡ sum_below (λ i. get_or w i 0 * get_or v i 0) n = by_columns n w flow balanced (λ j. get_or v j 0) in
      let all : weighted_sum w latencies ≡ sum_below (λ i. get_or w i 0 * get_or latencies i 0) n = ap (sum_below (λ i. get_or w i 0 * get_or latencies i 0)) sized in
      let parts : sum_below (λ i. get_or w i 0 * get_or latencies i 0) n ≡ sum_below (λ i. get_or w i 0 * get_or u i 0) n + sum_below (λ i. get_or w i 0 * get_or v i 0) n =
      split_sum (λ i. get_or w i 0 * get_or latencies i 0) (λ i. get_or w i 0 * get_or u i 0) (λ i. get_or w i 0 * get_or v i 0) n (λ i low.
      ap (λ x. get_or w i 0 * x) (latency_is i low) ∙ mul-add (get_or w i 0) (get_or u i 0) (get_or v i 0)) in
      omega arith

  pub is_certified : IsFlowCertificate (planned m latencies) w flow
  is_certified = record { cells = done.cells; balanced = balanced; value = value_is }

  pub is_optimal : FlowsShowOptimal → (made : PlanData) → made ≡ planned m latencies → IsWeightedOptimal made w
  is_optimal shows made is =
      let P : PlanData → Type 0 = λ plan. IsWeightedOptimal plan w in
      subst P (sym is) (shows (planned m latencies) w flow is_accepted sized is_certified)

  pub is_judged : EachSearchFindsFirst → EachShortPairIsFound → verdict_of (planned m latencies) w flow ≡ verdicts.Optimal (weighted_sum w latencies)
  is_judged finds shorts = sym (verdict_is finds shorts (planned m latencies) w flow (verdicts.Optimal (weighted_sum w latencies)) (is_accepted, is_certified, refl))

  -- no more units flow from a site to a site than the greatest weight
  pub are_units : AreWeights w → AreUnits flow
  are_units weights = All-from_get_or (λ units. units ≤ greatest_weight) flow 0 (λ place within. (
      let n : ℕ = count_of m in
      let inside : place < n * n = (let size : length flow ≡ n * n = done.cells in omega arith) in
      let some : 1 ≤ n = limits.some in
      let row : place / n < n = div_below place n n (omega arith) inside in
      let column : place % n < n = omega arith in
      let is : at n flow (place / n) (place % n) ≡ get_or flow place 0 = ap (λ p. get_or flow p 0) (div-add-mod' place n) in
      let below : at n flow (place / n) (place % n) ≤ row_sum n flow (place / n) = at_row_bounded n flow (place / n) (place % n) column in
      let sent : row_sum n flow (place / n) ≡ get_or w (place / n) 0 = done.sent (place / n) row in
      let weight : IsWeight (get_or w (place / n) 0) = All-get_or IsWeight w (place / n) 0 (omega (arith, sized)) weights.each in
      let most : get_or w (place / n) 0 ≤ greatest_weight = weight.1 in
      omega arith))
