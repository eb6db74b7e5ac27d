-- Matrices of round trips and plans: what they hold, and which are within the limits and accepted.
use Rattle.std.specs.Prelude.{◌≡◌, ◌≢◌, ℕ, ◌+◌, ◌*◌, ◌<◌, ◌≤◌, List, length, All, IsTrue, slice_index}
use Rattle.helios_model.specs.Grid.{at}
use Rattle.helios_model.specs.Texts.{IsName, all_differ}
use Rattle.helios_model.specs.Limits.{most_sites, longest_trip, greatest_latency}

-- the sites by name, and the round trips between them in microseconds, row after row
pub record MatrixData : Type 0 where
  pub names : List (List ℕ)
  pub trips : List ℕ

-- the same with each site's commit latency in half microseconds
pub record PlanData : Type 0 where
  pub names : List (List ℕ)
  pub trips : List ℕ
  pub latencies : List ℕ

abbrev pub count_of : PlanData → ℕ
count_of plan = length plan.names

-- the round trip between two sites, in microseconds
abbrev pub rtt : PlanData → ℕ → ℕ → ℕ
rtt plan i j = at (count_of plan) plan.trips i j

abbrev pub latency : PlanData → ℕ → ℕ
latency plan i = slice_index plan.latencies i

-- sites and round trips within the limits: distinct names, symmetric, 0 on the diagonal
pub record IsMatrix (names : List (List ℕ)) (trips : List ℕ) : Type 0 where
  pub some : 1 ≤ length names
  pub few : length names ≤ most_sites
  pub named : All IsName names
  pub distinct : IsTrue (all_differ (λ name. name) names)
  pub square : length trips ≡ length names * length names
  pub short : All (λ trip. trip ≤ longest_trip) trips
  pub symmetric : (i j : ℕ) → i < length names → j < length names → at (length names) trips i j ≡ at (length names) trips j i
  pub diagonal : (i : ℕ) → i < length names → at (length names) trips i i ≡ 0

-- the same with a latency for each site within its limit
pub record IsPlan (names : List (List ℕ)) (trips latencies : List ℕ) : Type 0 where
  pub matrix : IsMatrix names trips
  pub planned : length latencies ≡ length names
  pub bounded : All (λ half_micros. half_micros ≤ greatest_latency) latencies

-- a plan in which any two sites' latencies together reach their round trip, there and back in half microseconds
pub record IsAccepted (plan : PlanData) : Type 0 where
  pub limits : IsPlan plan.names plan.trips plan.latencies
  pub reached : (i j : ℕ) → i < count_of plan → j < count_of plan → i ≢ j → 2 * rtt plan i j ≤ latency plan i + latency plan j
