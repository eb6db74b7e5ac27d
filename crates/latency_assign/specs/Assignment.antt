-- What is assigned to the sites of a matrix: potentials, and a partner for each site.
use Rattle.std.specs.Prelude.{◌≡◌, ℕ, ◌<◌, ℤ, pos, ◌+ℤ◌, ◌≤ℤ◌, List, length, All, slice_index, slice_index_or}
use Rattle.std.specs.List.{range_with_len}
use Rattle.std.specs.List.Sorted.{IsPermutation}
use Rattle.helios_model.specs.Limits.{longest_trip}
use Rattle.helios_model.specs.Grid.{at}
use Rattle.helios_model.specs.Plans.{MatrixData}
use Rattle.latency_assign.specs.declared.potentials.Potentials.{Potentials}

abbrev pub count_of : MatrixData → ℕ
count_of m = length m.names

-- the numbers of the sites, in order
abbrev pub sites_of : MatrixData → List ℕ
sites_of m = range_with_len 0 (count_of m)

-- the round trip between two sites, in microseconds
abbrev pub distance : MatrixData → ℕ → ℕ → ℕ
distance m i j = at (count_of m) m.trips i j

abbrev pub potential : List ℤ → ℕ → ℤ
potential potentials i = slice_index_or potentials i (pos 0)

-- at least 0 and at most the longest round trip
abbrev pub IsInRange : ℤ → Type 0
IsInRange p = (pos 0 ≤ℤ p) × (p ≤ℤ pos longest_trip)

-- feasible: the potentials of any two sites together reach their round trip
abbrev pub IsReaching : MatrixData → List ℤ → List ℤ → Type 0
IsReaching m u v = (i j : ℕ) → i < count_of m → j < count_of m → pos (distance m i j) ≤ℤ (potential u i +ℤ potential v j)

-- tight: the potentials of a site and of its partner are their round trip
abbrev pub IsTightPairing : MatrixData → List ℤ → List ℤ → List ℕ → Type 0
IsTightPairing m u v pair = (i : ℕ) → i < count_of m → (potential u i +ℤ potential v (slice_index pair i)) ≡ pos (distance m i (slice_index pair i))

-- Each site has a partner of its own. The potentials of any two sites together reach their round trip, and those of a
-- site and its partner are their round trip.
pub record IsAssignment (m : MatrixData) (p : Potentials) : Type 0 where
  pub rows : length p.u ≡ count_of m
  pub columns : length p.v ≡ count_of m
  pub permutation : IsPermutation (sites_of m) p.s
  pub reached : IsReaching m p.u p.v
  pub tight : IsTightPairing m p.u p.v p.s
  pub rows_in_range : All IsInRange p.u
  pub columns_in_range : All IsInRange p.v
