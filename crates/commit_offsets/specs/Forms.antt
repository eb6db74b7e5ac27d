-- The form of each field of a plan's text.
use Rattle.std.specs.Prelude.{ℕ, ℤ, ◌&&◌, ◌==◌, Bool, List, Option, Some, None, is_none, option_and_then, if◌then◌else◌}
use Rattle.helios_model.specs.Naming.{first_bad_name, is_count}
use Rattle.helios_model.specs.Squares.{first_away, first_uneven}
use Rattle.json_text.specs.Arrays.{whole_number, integer, row_of, square_of}
use Rattle.json_text.specs.Lists.{each_of}
use Rattle.serde_json.specs.Data.{Data, Items}
use Rattle.serde_json.specs.Events.{items_len}
use Rattle.serde_json.specs.Find.{as_array, as_str}

-- a value that passes a test
abbrev pub passing : {T : Type 0} → (T → Bool) → T → Option T
passing test x = if test x then Some x else None

-- the version of plans that is read
unfoldable pub version_of : Data → Option ℕ
version_of d = option_and_then (passing (λ n. n == 1)) (whole_number d)

-- whether no text is bad as the name of a site
abbrev pub are_good : List (List ℕ) → Bool
are_good names = is_none (first_bad_name names)

-- the names of the sites of a cluster
unfoldable pub names_in : Items → Option (List (List ℕ))
names_in items = if is_count (items_len items) then option_and_then (passing are_good) (each_of as_str items) else None

abbrev pub names_of : Data → Option (List (List ℕ))
names_of d = option_and_then names_in (as_array d)

-- whether the square is the same read by columns and no site is away from itself
abbrev pub is_even : ℕ → List ℕ → Bool
is_even count trips = is_none (first_uneven count trips) && is_none (first_away count trips)

unfoldable pub trips_of : ℕ → Data → Option (List ℕ)
trips_of count d = option_and_then (passing (is_even count)) (square_of count whole_number d)

abbrev pub latencies_of : ℕ → Data → Option (List ℕ)
latencies_of count d = row_of count whole_number d

abbrev pub offsets_of : ℕ → Data → Option (List ℤ)
offsets_of count d = square_of count integer d

abbrev pub pair_of : ℕ → Data → Option (List ℕ)
pair_of count d = row_of count whole_number d
