-- A flow bounds from below the weighted sum of all latencies that reach the round trips.
use Rattle.std.proofs.Common.{◌≡◌, ◌≢◌, inl, inr, ℕ, ◌+◌, ◌*◌, ◌<◌, ◌≤◌, List, get_or, sym, ◌∙◌, ap, arith}
use Rattle.std.proofs.lemmas.Bool.{cases_eq}
use Rattle.std.proofs.Math.Nat.{add-mul, mul_comm, mul_assoc, mul-zero, zero-mul, mul-le-mul_right}
use Rattle.helios_model.specs.Grid.{at}
use Rattle.helios_model.specs.Pairings.{sum_below}
use Rattle.helios_model.specs.Plans.{count_of, rtt}
use Rattle.weighted_plan.specs.Flows.{flow_value, FlowsShowOptimal, IsBalanced}
use Rattle.weighted_plan.specs.Weighted.{weighted_sum}
use Rattle.weighted_plan.proofs.Additions.{same_sum, sum_bounded, scaled_sum, exchanged_sums}

module _ (n : ℕ) (weights flow : List ℕ) (balanced : (i : ℕ) → i < n → IsBalanced n weights flow i) where
  -- a number for each row, as often as units flow from it
  pub by_rows : (numbers : ℕ → ℕ) → sum_below (λ i. sum_below (λ j. numbers i * at n flow i j) n) n ≡ sum_below (λ i. get_or weights i 0 * numbers i) n
  by_rows numbers = same_sum (λ i. sum_below (λ j. numbers i * at n flow i j) n) (λ i. get_or weights i 0 * numbers i) n (λ i low. (
      scaled_sum (numbers i) (λ j. at n flow i j) n
      ∙ ap (λ m. numbers i * m) (balanced i low).0
      ∙ mul_comm (numbers i) (get_or weights i 0)))

  -- a number for each column, as often as units flow to it
  pub by_columns : (numbers : ℕ → ℕ) → sum_below (λ i. sum_below (λ j. numbers j * at n flow i j) n) n ≡ sum_below (λ j. get_or weights j 0 * numbers j) n
  by_columns numbers =
      exchanged_sums (λ i j. numbers j * at n flow i j) n n
      ∙ same_sum (λ j. sum_below (λ i. numbers j * at n flow i j) n) (λ j. get_or weights j 0 * numbers j) n (λ j low. (
      scaled_sum (numbers j) (λ i. at n flow i j) n
      ∙ ap (λ m. numbers j * m) (balanced j low).1
      ∙ mul_comm (numbers j) (get_or weights j 0)))

  -- twice k times the round trips that units flow over is at most twice the weighted sum of numbers that reach them
  pub flow_bound : (trip : ℕ → ℕ → ℕ) (k : ℕ) (p : ℕ → ℕ) → ((i : ℕ) → i < n → trip i i ≡ 0) → ((i j : ℕ) → i < n → j < n → i ≢ j → 2 * k * trip i j ≤ p i + p j)
      → k * sum_below (λ i. sum_below (λ j. trip i j * at n flow i j) n) n ≤ sum_below (λ i. get_or weights i 0 * p i) n
  flow_bound trip k p home reach =
      let value : ℕ → ℕ = λ i. sum_below (λ j. trip i j * at n flow i j) n in
      let each : (i j : ℕ) → i < n → j < n → 2 * k * (trip i j * at n flow i j) ≤ p i * at n flow i j + p j * at n flow i j = λ i j row column.
      elim (cases_eq i j) [
        | inl same ↦ (
            let none : trip i j ≡ 0 = ap (trip i) (sym same) ∙ home i row in
            let nothing : 2 * k * (trip i j * at n flow i j) ≡ 0 = ap (λ m. 2 * k * (m * at n flow i j)) none ∙ ap (λ m. 2 * k * m) (zero-mul (at n flow i j)) ∙ mul-zero (2 * k) in
            omega arith)
        | inr apart ↦ (
            let reached : 2 * k * trip i j * at n flow i j ≤ (p i + p j) * at n flow i j = mul-le-mul_right (at n flow i j) (reach i j row column apart) in
            let moved : 2 * k * trip i j * at n flow i j ≡ 2 * k * (trip i j * at n flow i j) = mul_assoc (2 * k) (trip i j) (at n flow i j) in
            let split : (p i + p j) * at n flow i j ≡ p i * at n flow i j + p j * at n flow i j = add-mul (p i) (p j) (at n flow i j) in
            omega arith)
      ] in
      let total : 2 * k * sum_below value n ≤ sum_below (λ i. sum_below (λ j. p i * at n flow i j) n) n + sum_below (λ i. sum_below (λ j. p j * at n flow i j) n) n =
      sum_bounded (2 * k) value (λ i. sum_below (λ j. p i * at n flow i j) n) (λ i. sum_below (λ j. p j * at n flow i j) n) n (λ i row.
      sum_bounded (2 * k) (λ j. trip i j * at n flow i j) (λ j. p i * at n flow i j) (λ j. p j * at n flow i j) n (λ j column. each i j row column)) in
      let rows : sum_below (λ i. sum_below (λ j. p i * at n flow i j) n) n ≡ sum_below (λ i. get_or weights i 0 * p i) n = by_rows p in
      let columns : sum_below (λ i. sum_below (λ j. p j * at n flow i j) n) n ≡ sum_below (λ i. get_or weights i 0 * p i) n = by_columns p in
      let twice : 2 * k * sum_below value n ≡ 2 * (k * sum_below value n) = mul_assoc 2 k (sum_below value n) in
      omega arith

-- an accepted plan with a flow of equal value has the least weighted sum
pub flows_show_optimal : FlowsShowOptimal
flows_show_optimal plan weights flow accepted sized certificate k others some long reach =
    let n : ℕ = count_of plan in
    let bound : k * flow_value plan flow ≤ sum_below (λ i. get_or weights i 0 * get_or others i 0) n =
    flow_bound n weights flow certificate.balanced (rtt plan) k (λ i. get_or others i 0) accepted.limits.matrix.diagonal reach in
    let value : k * weighted_sum weights plan.latencies ≡ k * flow_value plan flow = ap (λ m. k * m) certificate.value in
    let all : weighted_sum weights others ≡ sum_below (λ i. get_or weights i 0 * get_or others i 0) n = ap (sum_below (λ i. get_or weights i 0 * get_or others i 0)) sized in
    omega arith
