-- A square of numbers, row after row.
use Rattle.std.specs.Prelude.{ℕ, ◌+◌, ◌*◌, List, slice_index, slice_set}

-- the number in a row and a column of a square of so many rows
abbrev pub at : ℕ → List ℕ → ℕ → ℕ → ℕ
at count square row column = slice_index square (row * count + column)

-- the square with another number there
abbrev pub put : ℕ → List ℕ → ℕ → ℕ → ℕ → List ℕ
put count square row column number = slice_set square (row * count + column) number
