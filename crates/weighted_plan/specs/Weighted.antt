-- Weights of the sites, and when a plan has the least weighted sum of latencies.
use Rattle.std.specs.Prelude.{◌≡◌, ℕ, ◌*◌, ◌≤◌, List, length, All, slice_index}
use Rattle.helios_model.specs.Limits.{most_sites}
use Rattle.helios_model.specs.Optimal.{Reaches}
use Rattle.helios_model.specs.Pairings.{sum_below}
use Rattle.helios_model.specs.Plans.{PlanData, count_of}

-- the greatest weight of a site, and the most units that flow from a row to a column
abbrev pub greatest_weight : ℕ
greatest_weight = 1000

abbrev pub IsWeight : ℕ → Type 0
IsWeight weight = (1 ≤ weight) × (weight ≤ greatest_weight)

-- a weight for each site of some cluster
pub record AreWeights (weights : List ℕ) : Type 0 where
  pub some : 1 ≤ length weights
  pub few : length weights ≤ most_sites
  pub each : All IsWeight weights

-- the latencies, each times its site's weight, added up
abbrev pub weighted_sum : List ℕ → List ℕ → ℕ
weighted_sum weights latencies = sum_below (λ i. slice_index weights i * slice_index latencies i) (length weights)

-- no latencies that reach the plan's round trips have a smaller weighted sum, in whatever part of half a microsecond they are given
abbrev pub IsWeightedOptimal : PlanData → List ℕ → Type 0
IsWeightedOptimal plan weights = (k : ℕ) (others : List ℕ) → 1 ≤ k → length others ≡ count_of plan → Reaches plan k others
    → k * weighted_sum weights plan.latencies ≤ weighted_sum weights others
