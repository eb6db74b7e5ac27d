-- The weights that a text says for so many sites, or the first rule that the text breaks.
use Rattle.std.specs.Prelude.{ℕ, ◌&&◌, Bool, nat_le, List, Option, Some, None, option_and_then, Result, codes, if◌then◌else◌}
use Rattle.std.specs.List.{list_all}
use Rattle.json_text.specs.Arrays.{whole_number, row_of}
use Rattle.json_text.specs.Reading.{◌>>=◌, required}
use Rattle.json_text.specs.Text.{json_of}
use Rattle.serde_json.specs.Data.{Data}
use Rattle.serde_json.specs.Find.{get}
use Rattle.weighted_plan.specs.Weighted.{greatest_weight}
use Rattle.weighted_plan.specs.declared.refusal.WeightsRefusal.{WeightsRefusal}
use Rattle.weighted_plan.specs.declared.refusal.WeightsRefusal.TheVariants as refusals

abbrev pub is_weight : ℕ → Bool
is_weight number = nat_le 1 number && nat_le number greatest_weight

-- numbers that are weights, each of them
abbrev pub weighing : List ℕ → Option (List ℕ)
weighing numbers = if list_all is_weight numbers then Some numbers else None

-- an array of as many weights as there are sites
unfoldable pub weights_in : ℕ → Data → Option (List ℕ)
weights_in count d = option_and_then weighing (row_of count whole_number d)

-- what a JSON value says as weights
unfoldable pub weights_at : ℕ → Data → Result (List ℕ) WeightsRefusal
weights_at count d = required refusals.BadWeights (option_and_then (weights_in count) (get (codes "weights") d))

-- what a text says as weights
unfoldable pub weights_of_text : ℕ → List ℕ → Result (List ℕ) WeightsRefusal
weights_of_text count bytes = required refusals.NotJson (json_of bytes) >>= weights_at count
