-- The text of a plan with weights and a flow.
use Rattle.std.specs.Prelude.{ℕ, List, [], ◌∷◌, ◌++◌, map, codes}
use Rattle.std.specs.List.{range_with_len}
use Rattle.helios_model.specs.Grid.{at}
use Rattle.helios_model.specs.Plans.{PlanData, count_of}
use Rattle.serde_json.specs.Data.{Data, unsigned, number, string, array, object, no_members, member}
use Rattle.serde_json.specs.View.{items_of}
use Rattle.serde_json.specs.Written.{compact_text}
use Rattle.weighted_plan.specs.Weighted.{weighted_sum}

abbrev pub whole : ℕ → Data
whole n = number (unsigned n)

-- an array, each item as f gives it
abbrev pub array_data : {X : Type 0} → (X → Data) → List X → Data
array_data f xs = array (items_of (map f xs))

-- a row of a square of n columns
abbrev pub row_data : ℕ → List ℕ → ℕ → Data
row_data n square i = array_data (λ j. whole (at n square i j)) (range_with_len 0 n)

-- a square of n rows of whole numbers
abbrev pub square_data : ℕ → List ℕ → Data
square_data n square = array_data (row_data n square) (range_with_len 0 n)

-- the members in the order of their names
unfoldable pub members_data : Data → Data → Data → Data → Data → Data → Data
members_data flow latency names rtt total weights =
    object (member (codes "flow") flow (member (codes "latency") latency (member (codes "names") names
    (member (codes "rtt") rtt (member (codes "total") total (member (codes "weights") weights no_members))))))

abbrev pub weighted_data_with : PlanData → List ℕ → List ℕ → ℕ → Data
weighted_data_with plan weights flow total =
    members_data (square_data (count_of plan) flow) (array_data whole plan.latencies) (array_data string plan.names)
    (square_data (count_of plan) plan.trips) (whole total) (array_data whole weights)

-- the total is the weighted sum of the latencies
abbrev pub weighted_data : PlanData → List ℕ → List ℕ → Data
weighted_data plan weights flow = weighted_data_with plan weights flow (weighted_sum weights plan.latencies)

-- the text without blanks, and a line feed
abbrev pub weighted_text : PlanData → List ℕ → List ℕ → List ℕ
weighted_text plan weights flow = compact_text (weighted_data plan weights flow) ++ 10 ∷ []
