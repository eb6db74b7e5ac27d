-- The round trips between the sites as a square, row after row, and the first of them that breaks a rule of a matrix.
use Rattle.std.specs.Prelude.{◌≡◌, ℕ, ◌*◌, ◌/◌, ◌%◌, ◌<◌, ◌==◌, ◌&&◌, Bool, not, nat_lt, List, length, Option, option_map, find, slice_index}
use Rattle.std.specs.List.{range_with_len}
use Rattle.helios_model.specs.Limits.{longest_trip}
use Rattle.helios_model.specs.Grid.{at}

-- the first number below a bound that passes a test
abbrev pub first_below : (ℕ → Bool) → ℕ → Option ℕ
first_below test bound = find test (range_with_len 0 bound)

-- the row and the column of a place in a square of n rows
abbrev pub row_and_column : ℕ → ℕ → ℕ × ℕ
row_and_column n place = (place / n, place % n)

-- the first place of a round trip that is too long
abbrev pub too_long_place : List ℕ → Option ℕ
too_long_place trips = first_below (λ place. nat_lt longest_trip (slice_index trips place)) (length trips)

abbrev pub first_too_long : ℕ → List ℕ → Option (ℕ × ℕ)
first_too_long n trips = option_map (row_and_column n) (too_long_place trips)

-- whether a place stands above the diagonal and has another number than its mirror image
abbrev pub is_uneven : ℕ → List ℕ → ℕ → Bool
is_uneven n trips place = nat_lt (place / n) (place % n) && not (at n trips (place / n) (place % n) == at n trips (place % n) (place / n))

-- the first such place
abbrev pub uneven_place : ℕ → List ℕ → Option ℕ
uneven_place n trips = first_below (is_uneven n trips) (n * n)

abbrev pub first_uneven : ℕ → List ℕ → Option (ℕ × ℕ)
first_uneven n trips = option_map (row_and_column n) (uneven_place n trips)

-- the first site that is away from itself
abbrev pub first_away : ℕ → List ℕ → Option ℕ
first_away n trips = first_below (λ i. not (at n trips i i == 0)) n

-- the square is the same read by columns
abbrev pub IsSymmetric : ℕ → List ℕ → Type 0
IsSymmetric n trips = (i j : ℕ) → i < n → j < n → at n trips i j ≡ at n trips j i

-- no site is away from itself
abbrev pub IsZeroOnDiagonal : ℕ → List ℕ → Type 0
IsZeroOnDiagonal n trips = (i : ℕ) → i < n → at n trips i i ≡ 0
