-- Numbers and arrays in a JSON value.
use Rattle.std.specs.Prelude.{ℕ, ℤ, ◌==◌, List, length, Option, Some, None, option_map, option_and_then, if◌then◌else◌}
use Rattle.std.specs.List.{flat_map}
use Rattle.serde_json.specs.Data.{Data}
use Rattle.json_text.specs.Lists.{each_of}
use Rattle.serde_json.specs.Find.{as_array, as_number, as_u64, as_i64}

-- a number that is whole, at least 0 and below 2 ^ 64, and written without a point or an exponent
abbrev pub whole_number : Data → Option ℕ
whole_number d = option_and_then as_u64 (as_number d)

-- a number that is whole, from -2 ^ 63 to 2 ^ 63 - 1, and written without a point or an exponent
abbrev pub integer : Data → Option ℤ
integer d = option_and_then as_i64 (as_number d)

-- an array, each item as f gives it
unfoldable pub array_of : {T : Type 0} → (Data → Option T) → Data → Option (List T)
array_of f d = option_and_then (each_of f) (as_array d)

-- a list where it has n items
abbrev pub counted : {T : Type 0} → ℕ → List T → Option (List T)
counted n xs = if length xs == n then Some xs else None

-- an array of n items, each as f gives it
unfoldable pub row_of : {T : Type 0} → ℕ → (Data → Option T) → Data → Option (List T)
row_of n f d = option_and_then (counted n) (array_of f d)

-- n rows of n items each, one after another
unfoldable pub square_of : {T : Type 0} → ℕ → (Data → Option T) → Data → Option (List T)
square_of n f d = option_map (flat_map (λ row. row)) (row_of n (row_of n f) d)
