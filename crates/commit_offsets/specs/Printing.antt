-- The text of a plan with its certificate.
use Rattle.std.specs.Prelude.{ℕ, ℤ, List, [], ◌∷◌, ◌++◌, map, sum, codes}
use Rattle.std.specs.List.{range_with_len}
use Rattle.helios_model.specs.Offset.{offset}
use Rattle.helios_model.specs.Plans.{PlanData, count_of, rtt}
use Rattle.serde_json.specs.Data.{Data, unsigned, number, string, array, object, no_members, member}
use Rattle.serde_json.specs.Find.{of_integer}
use Rattle.serde_json.specs.View.{items_of}
use Rattle.serde_json.specs.Written.{compact_text}

abbrev pub whole : ℕ → Data
whole n = number (unsigned n)

abbrev pub signed : ℤ → Data
signed z = number (of_integer z)

-- an array, each item as f gives it
abbrev pub array_data : {X : Type 0} → (X → Data) → List X → Data
array_data f xs = array (items_of (map f xs))

-- one row of a square of n columns, each place as f gives it
abbrev pub row_data : ℕ → (ℕ → Data) → Data
row_data n f = array_data f (range_with_len 0 n)

-- a square of n rows, each place as f gives it
abbrev pub square_data : ℕ → (ℕ → ℕ → Data) → Data
square_data n f = array_data (λ i. row_data n (f i)) (range_with_len 0 n)

-- the members in the order of their names
unfoldable pub members_data : Data → Data → Data → Data → Data → Data → Data
members_data latency names offset pair rtt total =
    object (member (codes "latency") latency (member (codes "names") names (member (codes "offset") offset (member (codes "pair") pair
    (member (codes "rtt") rtt (member (codes "total") total (member (codes "version") (whole 1) no_members)))))))

abbrev pub plan_data : PlanData → List ℕ → Data
plan_data plan pair =
    members_data (array_data whole plan.latencies) (array_data string plan.names)
    (square_data (count_of plan) (λ i j. signed (offset plan i j))) (array_data whole pair)
    (square_data (count_of plan) (λ i j. whole (rtt plan i j))) (whole (sum plan.latencies))

-- the text without blanks, and a line feed
abbrev pub plan_text : PlanData → List ℕ → List ℕ
plan_text plan pair = compact_text (plan_data plan pair) ++ 10 ∷ []
