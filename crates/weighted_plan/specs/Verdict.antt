-- The verdict on a plan, weights and a flow, as a function of them.
use Rattle.std.specs.Prelude.{ℕ, ◌==◌, ◌||◌, Bool, not, List, Option, Some, None, slice_index, if◌then◌else◌}
use Rattle.helios_model.specs.Plans.{PlanData, count_of}
use Rattle.helios_model.specs.Short.{first_short_of}
use Rattle.helios_model.specs.Squares.{first_below}
use Rattle.weighted_plan.specs.Flows.{column_sum, flow_value, row_sum}
use Rattle.weighted_plan.specs.Weighted.{weighted_sum}
use Rattle.weighted_plan.specs.declared.verdict.WeightedVerdict.{WeightedVerdict}
use Rattle.weighted_plan.specs.declared.verdict.WeightedVerdict.TheVariants.{Optimal, Short, BadFlow, ValueDiffers}

-- whether the row or the column of a site has other units than its weight
abbrev pub is_unbalanced : ℕ → List ℕ → List ℕ → ℕ → Bool
is_unbalanced n weights flow i = not (row_sum n flow i == slice_index weights i) || not (column_sum n flow i == slice_index weights i)

-- the verdict where no two sites are short and each is balanced
abbrev pub weighed : ℕ → ℕ → WeightedVerdict
weighed given value = if given == value then Optimal given else ValueDiffers given value

-- the verdict where no two sites are short, and the first site that isn't balanced is known
abbrev pub flowing : PlanData → List ℕ → List ℕ → Option ℕ → WeightedVerdict
flowing plan weights flow (Some i) = BadFlow i
flowing plan weights flow None = weighed (weighted_sum weights plan.latencies) (flow_value plan flow)

-- the verdict, where the first short pair is known
abbrev pub judged : PlanData → List ℕ → List ℕ → Option (ℕ × ℕ) → WeightedVerdict
judged plan weights flow (Some short) = Short short.0 short.1
judged plan weights flow None = flowing plan weights flow (first_below (is_unbalanced (count_of plan) weights flow) (count_of plan))

unfoldable pub verdict_of : PlanData → List ℕ → List ℕ → WeightedVerdict
verdict_of plan weights flow = judged plan weights flow (first_short_of plan)
