-- What each verdict says of a plan, weights and a flow. No two of them hold together.
use Rattle.std.specs.Prelude.{◌≡◌, ◌≢◌, ℕ, ◌<◌, List}
use Rattle.helios_model.specs.Plans.{PlanData, IsAccepted, count_of}
use Rattle.helios_model.specs.Short.{IsFirstShort}
use Rattle.weighted_plan.specs.Flows.{flow_value, IsBalanced, IsFlowCertificate}
use Rattle.weighted_plan.specs.Weighted.{weighted_sum}
use Rattle.weighted_plan.specs.declared.verdict.WeightedVerdict.{WeightedVerdict}
use Rattle.weighted_plan.specs.declared.verdict.WeightedVerdict.TheVariants as verdicts

-- the sites before a place are balanced
abbrev pub AreBalanced : ℕ → List ℕ → List ℕ → ℕ → Type 0
AreBalanced n weights flow place = (i : ℕ) → i < place → IsBalanced n weights flow i

-- a site isn't balanced, and all before it are
pub record IsFirstUnbalanced (n : ℕ) (weights flow : List ℕ) (i : ℕ) : Type 0 where
  pub within : i < n
  pub unbalanced : IsBalanced n weights flow i → ⊥
  pub before : AreBalanced n weights flow i

abbrev pub Says : PlanData → List ℕ → List ℕ → WeightedVerdict → Type 0
Says plan weights flow (verdicts.Short i j) = IsFirstShort plan i j
Says plan weights flow (verdicts.BadFlow i) = IsAccepted plan × IsFirstUnbalanced (count_of plan) weights flow i
Says plan weights flow (verdicts.ValueDiffers given value) =
    IsAccepted plan × AreBalanced (count_of plan) weights flow (count_of plan) × (given ≡ weighted_sum weights plan.latencies) × (value ≡ flow_value plan flow) × (given ≢ value)
Says plan weights flow (verdicts.Optimal total) = IsAccepted plan × IsFlowCertificate plan weights flow × (total ≡ weighted_sum weights plan.latencies)
