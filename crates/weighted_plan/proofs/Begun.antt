-- The state before anything flows.
use Rattle.std.proofs.Common.{◌≡◌, inl, inr, ℕ, ◌+◌, ◌*◌, ◌<◌, ◌≤◌, List, length, get_or, replicate, refl, sym, ◌∙◌, ap, subst, arith}
use Rattle.std.specs.Prelude.{sum}
use Rattle.std.proofs.lemmas.Bool.{cases_lt}
use Rattle.std.proofs.lemmas.List.{length-replicate, get_or-replicate, get_or_past}
use Rattle.std.proofs.lemmas.List.Elements.{All-get_or}
use Rattle.helios_model.specs.Grid.{at}
use Rattle.helios_model.specs.Limits.{longest_trip}
use Rattle.helios_model.specs.Pairings.{sum_below, sum_below-items}
use Rattle.helios_model.specs.Plans.{MatrixData, IsMatrix}
use Rattle.weighted_plan.specs.Flows.{column_sum, row_sum}
use Rattle.weighted_plan.specs.Transport.{IsFlowing, IsTransport, IsTransported}
use Rattle.weighted_plan.specs.Trips.{count_of, distance}
use Rattle.weighted_plan.specs.Weighted.{greatest_weight, AreWeights, IsWeight}
use Rattle.weighted_plan.proofs.Additions.{no_sum, term_bounded}

-- numbers that are all 0 add up to 0
pub no_items : (numbers : List ℕ) → ((i : ℕ) → i < length numbers → get_or numbers i 0 ≡ 0) → sum numbers ≡ 0
no_items numbers none = sym (sum_below-items numbers) ∙ no_sum (λ i. get_or numbers i 0) (length numbers) none

-- where they add up to 0, all are 0
pub all_none : (numbers : List ℕ) (i : ℕ) → i < length numbers → sum numbers ≡ 0 → get_or numbers i 0 ≡ 0
all_none numbers i low none =
    let below : get_or numbers i 0 ≤ sum_below (λ k. get_or numbers k 0) (length numbers) = term_bounded (λ k. get_or numbers k 0) (length numbers) i low in
    let is : sum_below (λ k. get_or numbers k 0) (length numbers) ≡ sum numbers = sum_below-items numbers in
    omega arith

-- no round trip of a matrix is over the limit
pub distance_bounded : (m : MatrixData) → IsMatrix m.names m.trips → (i j : ℕ) → distance m i j ≤ longest_trip
distance_bounded m limits i j = elim (cases_lt (i * count_of m + j) (length m.trips)) [
  | inl within ↦ All-get_or (λ x. x ≤ longest_trip) m.trips (i * count_of m + j) 0 within limits.short
  | inr past ↦ (let none : get_or m.trips (i * count_of m + j) 0 ≡ 0 = get_or_past m.trips (i * count_of m + j) 0 past in omega arith)
]

module _ (n : ℕ) (d : ℕ → ℕ → ℕ) (w u v flow : List ℕ) (short : (i j : ℕ) → d i j ≤ longest_trip) (sized : length w ≡ n) (rows : u ≡ replicate n longest_trip) (columns : v ≡ replicate n 0) (cells : flow ≡ replicate (n * n) 0) where
  u_is : (i : ℕ) → i < n → get_or u i 0 ≡ longest_trip
  u_is i low = ap (λ xs. get_or xs i 0) rows ∙ get_or-replicate n i longest_trip 0 low

  v_is : (j : ℕ) → j < n → get_or v j 0 ≡ 0
  v_is j low = ap (λ xs. get_or xs j 0) columns ∙ get_or-replicate n j 0 0 low

  none_flows : (i j : ℕ) → at n flow i j ≡ 0
  none_flows i j = elim (cases_lt (i * n + j) (n * n)) [
    | inl within ↦ ap (λ xs. get_or xs (i * n + j) 0) cells ∙ get_or-replicate (n * n) (i * n + j) 0 0 within
    | inr past ↦ get_or_past flow (i * n + j) 0 (let long : length flow ≡ n * n = ap length cells ∙ length-replicate (n * n) 0 in omega arith)
  ]

  none_sent : (i : ℕ) → row_sum n flow i ≡ 0
  none_sent i = no_sum (λ j. at n flow i j) n (λ j low. none_flows i j)

  none_taken : (j : ℕ) → column_sum n flow j ≡ 0
  none_taken j = no_sum (λ i. at n flow i j) n (λ i low. none_flows i j)

  pub first_transport : IsTransport n d w u v flow w w
  first_transport = record {
    feasible = record {
      short = short;
      rows = ap length rows ∙ length-replicate n longest_trip;
      columns = ap length columns ∙ length-replicate n 0;
      reached = λ i j row column. (let most : d i j ≤ longest_trip = short i j in let is : get_or u i 0 ≡ longest_trip = u_is i row in omega arith);
      small_rows = λ i row. (let is : get_or u i 0 ≡ longest_trip = u_is i row in omega arith);
      small_columns = λ j column. (let is : get_or v j 0 ≡ 0 = v_is j column in omega arith);
    };
    slack = record {
      tight = λ i j row column sends. (let none : at n flow i j ≡ 0 = none_flows i j in absurd (omega arith));
      free = λ j column wants. v_is j column;
    };
    flowing = record {
      cells = ap length cells ∙ length-replicate (n * n) 0;
      supplies = sized;
      demands = sized;
      sent = λ i row. (let none : row_sum n flow i ≡ 0 = none_sent i in omega arith);
      taken = λ j column. (let none : column_sum n flow j ≡ 0 = none_taken j in omega arith);
      even = refl;
    };
  }

-- the same of lists that are those
pub first_state : (n count : ℕ) (d : ℕ → ℕ → ℕ) (w u v flow supply demand : List ℕ) → ((i j : ℕ) → d i j ≤ longest_trip) → length w ≡ n → count ≡ n → u ≡ replicate count longest_trip → v ≡ replicate count 0 → flow ≡ replicate (count * count) 0 → supply ≡ w → demand ≡ w → IsTransport n d w u v flow supply demand
first_state n count d w u v flow supply demand short sized is rows columns cells supply_is demand_is =
    let P : List ℕ → Type 0 = λ x. IsTransport n d w u v flow x demand in
    let Q : List ℕ → Type 0 = λ x. IsTransport n d w u v flow w x in
    subst P (sym supply_is) (subst Q (sym demand_is) (first_transport n d w u v flow short sized
    (rows ∙ ap (λ k. replicate k longest_trip) is) (columns ∙ ap (λ k. replicate k 0) is) (cells ∙ ap (λ k. replicate (k * k) 0) is)))

-- what a column takes and has still to take is at most the greatest weight
pub light_columns : (n : ℕ) (w flow supply demand : List ℕ) → length w ≡ n → AreWeights w → IsFlowing n w flow supply demand → (j : ℕ) → j < n → column_sum n flow j + get_or demand j 0 ≤ greatest_weight
light_columns n w flow supply demand sized weights flowing j low =
    let is : column_sum n flow j + get_or demand j 0 ≡ get_or w j 0 = flowing.taken j low in
    let weight : IsWeight (get_or w j 0) = All-get_or IsWeight w j 0 (omega arith) weights.each in
    let most : get_or w j 0 ≤ greatest_weight = weight.1 in
    omega arith

-- where nothing is left to send, all is sent and taken
pub last_transport : (n : ℕ) (d : ℕ → ℕ → ℕ) (w u v flow supply demand : List ℕ) → sum supply ≡ 0 → IsTransport n d w u v flow supply demand → IsTransported n d w u v flow
last_transport n d w u v flow supply demand none transport =
    let flowing : IsFlowing n w flow supply demand = transport.flowing in
    record {
      feasible = transport.feasible;
      cells = flowing.cells;
      tight = transport.slack.tight;
      sent = λ i row. (
          let left : get_or supply i 0 ≡ 0 = all_none supply i (let size : length supply ≡ n = flowing.supplies in omega arith) none in
          let is : row_sum n flow i + get_or supply i 0 ≡ get_or w i 0 = flowing.sent i row in
          omega arith);
      taken = λ j column. (
          let left : get_or demand j 0 ≡ 0 = all_none demand j (let size : length demand ≡ n = flowing.demands in omega arith) (sym flowing.even ∙ none) in
          let is : column_sum n flow j + get_or demand j 0 ≡ get_or w j 0 = flowing.taken j column in
          omega arith);
    }
