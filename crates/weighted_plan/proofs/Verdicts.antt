-- What the judge of a plan has shown where it finds no fault.
use Rattle.std.proofs.Common.{◌≡◌, ℕ, ◌*◌, List, length}
use Rattle.helios_model.specs.Plans.{PlanData, IsAccepted, count_of}
use Rattle.weighted_plan.specs.Flows.{flow_value, FlowsShowOptimal, IsFlowCertificate}
use Rattle.weighted_plan.specs.Says.{AreBalanced}
use Rattle.weighted_plan.specs.Weighted.{weighted_sum, IsWeightedOptimal}

-- a balanced flow of equal value is a certificate
pub certified : (plan : PlanData) (weights flow : List ℕ) → length flow ≡ count_of plan * count_of plan → AreBalanced (count_of plan) weights flow (count_of plan) → weighted_sum weights plan.latencies ≡ flow_value plan flow → IsFlowCertificate plan weights flow
certified plan weights flow cells balanced value = record { cells = cells; balanced = balanced; value = value }

pub certified_optimal : FlowsShowOptimal → (plan : PlanData) (weights flow : List ℕ) → IsAccepted plan → length weights ≡ count_of plan → length flow ≡ count_of plan * count_of plan → AreBalanced (count_of plan) weights flow (count_of plan) → weighted_sum weights plan.latencies ≡ flow_value plan flow → IsWeightedOptimal plan weights
certified_optimal shows plan weights flow accepted sized cells balanced value = shows plan weights flow accepted sized (certified plan weights flow cells balanced value)
