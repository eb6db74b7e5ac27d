-- The round trips of a matrix by the numbers of the sites.
use Rattle.std.specs.Prelude.{ℕ, length}
use Rattle.helios_model.specs.Grid.{at}
use Rattle.helios_model.specs.Plans.{MatrixData}

abbrev pub count_of : MatrixData → ℕ
count_of m = length m.names

-- the round trip between two sites, in microseconds
abbrev pub distance : MatrixData → ℕ → ℕ → ℕ
distance m i j = at (count_of m) m.trips i j
