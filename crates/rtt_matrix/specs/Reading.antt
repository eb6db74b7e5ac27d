-- The matrix that a text says, or the first rule that the text breaks.
use Rattle.std.specs.Prelude.{ℕ, ◌+◌, List, length, min, Option, Some, None, is_some, Result, Ok, Err, codes, if◌then◌else◌}
use Rattle.helios_model.specs.Naming.{first_bad_name, is_count}
use Rattle.helios_model.specs.Plans.{MatrixData}
use Rattle.helios_model.specs.Squares.{first_away, first_too_long, first_uneven}
use Rattle.json_text.specs.Arrays.{whole_number, row_of, square_of}
use Rattle.json_text.specs.Lists.{each_of}
use Rattle.json_text.specs.Members.{array_member}
use Rattle.json_text.specs.Reading.{◌>>=◌, required, demand}
use Rattle.json_text.specs.Text.{json_of}
use Rattle.serde_json.specs.Data.{Data, Items, array, no_items, item}
use Rattle.serde_json.specs.Events.{items_len}
use Rattle.serde_json.specs.Find.{as_str}
use Rattle.rtt_matrix.specs.declared.refusal.MatrixRefusal.{MatrixRefusal}
use Rattle.rtt_matrix.specs.declared.refusal.MatrixRefusal.TheVariants as refusals

-- the items of a member that is an array
unfoldable pub items_at : List ℕ → Data → Result Items MatrixRefusal
items_at name d = required refusals.BadShape (array_member name d)

-- nothing where there is no such place or site, or else its refusal
abbrev pub refused_at : (ℕ → MatrixRefusal) → Option ℕ → Result (Unit {0}) MatrixRefusal
refused_at refusal None = Ok tt
refused_at refusal (Some place) = Err (refusal place)

-- as many texts as sites that a cluster has, none of which is no name or stands before
unfoldable pub names_of : Items → Result (List (List ℕ)) MatrixRefusal
names_of items = do
  counted ← demand (refusals.SiteCount (items_len items)) (is_count (items_len items))
  names ← required refusals.BadShape (each_of as_str items)
  good ← refused_at refusals.BadName (first_bad_name names)
  Ok names

-- how many rows of n whole numbers stand before the first value that is none
abbrev pub good_rows : ℕ → Items → ℕ
good_rows n no_items = 0
good_rows n (item d ds) = if is_some (row_of n whole_number d) then 1 + good_rows n ds else 0

-- the numbers of n rows of n whole numbers, row after row, or the first row that is missing, too many or no such row
unfoldable pub trips_of : ℕ → Items → Result (List ℕ) MatrixRefusal
trips_of n rows = required (refusals.BadRow (min n (good_rows n rows))) (square_of n whole_number (array rows))

-- nothing where no two sites are at fault, or else the refusal of those that are
abbrev pub refused_pair : (ℕ → ℕ → MatrixRefusal) → Option (ℕ × ℕ) → Result (Unit {0}) MatrixRefusal
refused_pair refusal None = Ok tt
refused_pair refusal (Some found) = Err (refusal found.0 found.1)

-- the first round trip that is too long, the first that differs from the one back, the first site that is away from itself
unfoldable pub trips_checked : ℕ → List ℕ → Result (Unit {0}) MatrixRefusal
trips_checked n trips = do
  short ← refused_pair refusals.TooLong (first_too_long n trips)
  symmetric ← refused_pair refusals.NotSymmetric (first_uneven n trips)
  refused_at refusals.Diagonal (first_away n trips)

-- what a JSON value says as a matrix
unfoldable pub matrix_at : Data → Result MatrixData MatrixRefusal
matrix_at d = do
  texts ← items_at (codes "names") d
  all ← demand refusals.BadShape (is_some (each_of as_str texts))
  rows ← items_at (codes "rtt") d
  names ← names_of texts
  trips ← trips_of (length names) rows
  limits ← trips_checked (length names) trips
  Ok (record { names = names; trips = trips })

-- what a text says as a matrix
unfoldable pub matrix_of_text : List ℕ → Result MatrixData MatrixRefusal
matrix_of_text bytes = required refusals.NotJson (json_of bytes) >>= matrix_at
