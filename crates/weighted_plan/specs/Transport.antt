-- The search for a flow. There are n rows and n columns, each the number of a site; d is the round trip of a row and a
-- column, and w the weight of each site. u has the potentials of the rows and v those of the columns; supply is what each
-- row has still to send, and demand what each column has still to take.
use Rattle.std.specs.Prelude.{◌≡◌, ℕ, ◌+◌, ◌*◌, ◌<◌, ◌≤◌, List, length, slice_index, sum}
use Rattle.helios_model.specs.Limits.{longest_trip}
use Rattle.helios_model.specs.Grid.{at}
use Rattle.weighted_plan.specs.Flows.{column_sum, row_sum}

-- the potentials of a row and a column are their round trip
abbrev pub IsTight : (ℕ → ℕ → ℕ) → List ℕ → List ℕ → ℕ → ℕ → Type 0
IsTight d u v i j = slice_index u i + slice_index v j ≡ d i j

-- potentials, none over the longest round trip, that reach each round trip
pub record IsFeasible (n : ℕ) (d : ℕ → ℕ → ℕ) (u v : List ℕ) : Type 0 where
  pub short : (i j : ℕ) → d i j ≤ longest_trip
  pub rows : length u ≡ n
  pub columns : length v ≡ n
  pub reached : (i j : ℕ) → i < n → j < n → d i j ≤ slice_index u i + slice_index v j
  pub small_rows : (i : ℕ) → i < n → slice_index u i ≤ longest_trip
  pub small_columns : (j : ℕ) → j < n → slice_index v j ≤ longest_trip

-- units flow where potentials are tight, and a column that has still to take some has the potential 0
pub record IsSlack (n : ℕ) (d : ℕ → ℕ → ℕ) (u v flow demand : List ℕ) : Type 0 where
  pub tight : (i j : ℕ) → i < n → j < n → 1 ≤ at n flow i j → IsTight d u v i j
  pub free : (j : ℕ) → j < n → 1 ≤ slice_index demand j → slice_index v j ≡ 0

-- what a row sent and what it has still to send are its weight, and so with each column
pub record IsFlowing (n : ℕ) (w flow supply demand : List ℕ) : Type 0 where
  pub cells : length flow ≡ n * n
  pub supplies : length supply ≡ n
  pub demands : length demand ≡ n
  pub sent : (i : ℕ) → i < n → row_sum n flow i + slice_index supply i ≡ slice_index w i
  pub taken : (j : ℕ) → j < n → column_sum n flow j + slice_index demand j ≡ slice_index w j
  pub even : sum supply ≡ sum demand

-- a state of the search
pub record IsTransport (n : ℕ) (d : ℕ → ℕ → ℕ) (w u v flow supply demand : List ℕ) : Type 0 where
  pub feasible : IsFeasible n d u v
  pub slack : IsSlack n d u v flow demand
  pub flowing : IsFlowing n w flow supply demand

-- all is sent and taken
pub record IsTransported (n : ℕ) (d : ℕ → ℕ → ℕ) (w u v flow : List ℕ) : Type 0 where
  pub feasible : IsFeasible n d u v
  pub cells : length flow ≡ n * n
  pub tight : (i j : ℕ) → i < n → j < n → 1 ≤ at n flow i j → IsTight d u v i j
  pub sent : (i : ℕ) → i < n → row_sum n flow i ≡ slice_index w i
  pub taken : (j : ℕ) → j < n → column_sum n flow j ≡ slice_index w j
