-- The verdict on a plan and a pairing, as a function of them.
use Rattle.std.specs.Prelude.{ℕ, ◌==◌, ◌||◌, Bool, nat_le, List, Option, Some, None, find, sum, slice_index, if◌then◌else◌}
use Rattle.std.specs.List.{list_any, range_with_len}
use Rattle.helios_model.specs.Optimal.{pair_value, sites_of}
use Rattle.helios_model.specs.Plans.{PlanData, count_of}
use Rattle.helios_model.specs.Short.{first_short_of}
use Rattle.plan_certificate.specs.declared.verdict.Verdict.{Verdict}
use Rattle.plan_certificate.specs.declared.verdict.Verdict.TheVariants.{Optimal, Short, NoPairing, ValueDiffers}

-- whether the partner at a place is no site, or is that of an earlier place
abbrev pub is_unpaired : ℕ → List ℕ → ℕ → Bool
is_unpaired count pair place = nat_le count (slice_index pair place) || list_any (λ k. slice_index pair k == slice_index pair place) (range_with_len 0 place)

-- the verdict where no two sites are short and each has a partner of its own
abbrev pub weighed : ℕ → ℕ → Verdict
weighed given value = if given == value then Optimal given else ValueDiffers given value

-- the verdict where no two sites are short
abbrev pub paired : PlanData → List ℕ → Option ℕ → Verdict
paired plan pair (Some place) = NoPairing place
paired plan pair None = weighed (sum plan.latencies) (pair_value plan pair)

-- the verdict, where the first short pair is known
abbrev pub judged : PlanData → List ℕ → Option (ℕ × ℕ) → Verdict
judged plan pair (Some short) = Short short.0 short.1
judged plan pair None = paired plan pair (find (is_unpaired (count_of plan) pair) (sites_of plan))

unfoldable pub verdict_of : PlanData → List ℕ → Verdict
verdict_of plan pair = judged plan pair (first_short_of plan)
