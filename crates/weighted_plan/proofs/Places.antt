-- Cells of a square of n rows.
use Rattle.std.proofs.Common.{◌≡◌, ℕ, ◌+◌, ◌*◌, ◌<◌, ◌≤◌, List, length, get_or, ◌∙◌, arith}
use Rattle.std.specs.Prelude.{All}
use Rattle.std.proofs.lemmas.Grind.{get_or_default_zero}
use Rattle.std.proofs.lemmas.List.Elements.{All-get_or}
use Rattle.std.proofs.lemmas.Nat.{mul-add-lt}
use Rattle.weighted_plan.specs.Weighted.{greatest_weight}

pub cell_within : (n row column : ℕ) → row < n → column < n → row * n + column < n * n
cell_within n row column row_in column_in = mul-add-lt row n column n row_in column_in

pub units_at : (n : ℕ) (flow : List ℕ) (row column : ℕ) → length flow ≡ n * n → All (λ units. units ≤ greatest_weight) flow → row < n → column < n → get_or flow (row * n + column) 0 ≤ greatest_weight
units_at n flow row column cells units row_in column_in = All-get_or (λ units. units ≤ greatest_weight) flow (row * n + column) 0 (let within : row * n + column < n * n = cell_within n row column row_in column_in in omega arith) units

-- a number that was read from a list of n
pub read_in : (n : ℕ) (numbers : List ℕ) (place x : ℕ) → length numbers ≡ n → place < n → x ≡ get_or numbers place x → x ≡ get_or numbers place 0
read_in n numbers place x size within is = is ∙ get_or_default_zero numbers place x (omega arith)
