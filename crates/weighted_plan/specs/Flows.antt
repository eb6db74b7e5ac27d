-- Units that flow from sites to sites, and how they show that a plan has the least weighted sum of latencies.
use Rattle.std.specs.Prelude.{◌≡◌, ℕ, ◌*◌, ◌<◌, ◌≤◌, List, length, All, slice_index}
use Rattle.helios_model.specs.Grid.{at}
use Rattle.helios_model.specs.Pairings.{sum_below}
use Rattle.helios_model.specs.Plans.{PlanData, IsAccepted, count_of, rtt}
use Rattle.weighted_plan.specs.Weighted.{greatest_weight, weighted_sum, IsWeightedOptimal}

-- units of each row and column, row after row, none over the greatest weight
abbrev pub AreUnits : List ℕ → Type 0
AreUnits flow = All (λ units. units ≤ greatest_weight) flow

-- the units of a row of a square of n rows
abbrev pub row_sum : ℕ → List ℕ → ℕ → ℕ
row_sum n flow i = sum_below (λ j. at n flow i j) n

-- the units of a column
abbrev pub column_sum : ℕ → List ℕ → ℕ → ℕ
column_sum n flow j = sum_below (λ i. at n flow i j) n

-- the row and the column of a site both have as many units as its weight
abbrev pub IsBalanced : ℕ → List ℕ → List ℕ → ℕ → Type 0
IsBalanced n weights flow i = (row_sum n flow i ≡ slice_index weights i) × (column_sum n flow i ≡ slice_index weights i)

-- the round trips, each as often as units flow over it, added up
abbrev pub flow_value : PlanData → List ℕ → ℕ
flow_value plan flow = sum_below (λ i. sum_below (λ j. rtt plan i j * at (count_of plan) flow i j) (count_of plan)) (count_of plan)

-- row and column of each site have as many units as its weight, and the round trips that they flow over add up to the weighted latencies
pub record IsFlowCertificate (plan : PlanData) (weights flow : List ℕ) : Type 0 where
  pub cells : length flow ≡ count_of plan * count_of plan
  pub balanced : (i : ℕ) → i < count_of plan → IsBalanced (count_of plan) weights flow i
  pub value : weighted_sum weights plan.latencies ≡ flow_value plan flow

-- an accepted plan with a flow of equal value has the least weighted sum
abbrev pub FlowsShowOptimal : Type 0
FlowsShowOptimal = (plan : PlanData) (weights flow : List ℕ) → IsAccepted plan → length weights ≡ count_of plan → IsFlowCertificate plan weights flow
    → IsWeightedOptimal plan weights
