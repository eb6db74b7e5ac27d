-- When a plan has the least average latency, and what shows it.
use Rattle.std.specs.Prelude.{◌≡◌, ◌≢◌, ℕ, ◌+◌, ◌*◌, ◌<◌, ◌≤◌, List, length, sum, slice_index, map}
use Rattle.helios_model.specs.Plans.{PlanData, count_of, rtt}
use Rattle.std.specs.List.{range_with_len}
use Rattle.std.specs.List.Sorted.{IsPermutation}

-- latencies in the k-th part of half a microsecond, of which those of any two sites together reach their round trip
abbrev pub Reaches : PlanData → ℕ → List ℕ → Type 0
Reaches plan k latencies = (i j : ℕ) → i < count_of plan → j < count_of plan → i ≢ j → 2 * k * rtt plan i j ≤ slice_index latencies i + slice_index latencies j

-- no latencies that reach the plan's round trips have a smaller sum, in whatever part of half a microsecond they are given
abbrev pub IsOptimal : PlanData → Type 0
IsOptimal plan = (k : ℕ) (others : List ℕ) → 1 ≤ k → length others ≡ count_of plan → Reaches plan k others → k * sum plan.latencies ≤ sum others

-- the numbers of the sites, in order
abbrev pub sites_of : PlanData → List ℕ
sites_of plan = range_with_len 0 (count_of plan)

-- the sum of the round trips from each site to its partner
abbrev pub pair_value : PlanData → List ℕ → ℕ
pair_value plan pair = sum (map (λ i. rtt plan i (slice_index pair i)) (sites_of plan))

-- each site is the partner of one site, and the round trips to the partners add up to the latencies
pub record IsCertificate (plan : PlanData) (pair : List ℕ) : Type 0 where
  pub pairing : IsPermutation (sites_of plan) pair
  pub value : sum plan.latencies ≡ pair_value plan pair
