-- How a plan is made of a matrix and its potentials.
use Rattle.std.specs.Prelude.{◌≡◌, ℕ, ◌<◌, pos, ◌+ℤ◌, List, length, slice_index}
use Rattle.helios_model.specs.Plans.{MatrixData, PlanData}
use Rattle.latency_assign.specs.Assignment.{count_of, potential}
use Rattle.latency_assign.specs.declared.potentials.Potentials.{Potentials}

-- the matrix with latencies
abbrev pub planned : MatrixData → List ℕ → PlanData
planned m latencies = record { names = m.names; trips = m.trips; latencies = latencies }

-- the latency of each site is the sum of its potentials as a row and as a column
pub record AreSums (m : MatrixData) (p : Potentials) (latencies : List ℕ) : Type 0 where
  pub size : length latencies ≡ count_of m
  pub sums : (i : ℕ) → i < count_of m → pos (slice_index latencies i) ≡ (potential p.u i +ℤ potential p.v i)
