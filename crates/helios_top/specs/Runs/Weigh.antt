-- `helios weigh`: the input is a matrix of round trips with a weight for each site, and what is printed is a plan over it with the least weighted sum
-- of latencies, and the flow that shows it.
use Rattle.std.specs.Prelude.{◌≡◌, ℕ, List, length, Some, IsOkAnd}
use Rattle.helios_model.specs.Plans.{IsAccepted, MatrixData, PlanData}
use Rattle.json_text.specs.Text.{json_of}
use Rattle.rtt_matrix.specs.Reading.{matrix_of_text}
use Rattle.weighted_plan.specs.declared.verdict.WeightedVerdict.TheVariants as verdicts
use Rattle.weighted_plan.specs.Flows.{IsFlowCertificate}
use Rattle.weighted_plan.specs.Printing.{weighted_data, weighted_text}
use Rattle.weighted_plan.specs.Reading.{weights_of_text}
use Rattle.weighted_plan.specs.Verdict.{verdict_of}
use Rattle.weighted_plan.specs.Weighted.{IsWeightedOptimal, weighted_sum}
use Rattle.helios_top.specs.declared.words.Command.TheVariants.{Weigh}
use Rattle.helios_top.specs.declared.ending.Ending.{Ending}
use Rattle.helios_top.specs.declared.ending.Ending.TheVariants.{Printed}
use Rattle.helios_top.specs.Ending.{RefusedOr}
use Rattle.helios_top.specs.Inputs.{ReadsInput}
use Rattle.helios_top.specs.Outside.{Outside}
use Rattle.helios_top.specs.Refusals.{weights_refusal}

-- the text of a plan over the matrix, with these weights and a flow, is printed
pub record IsWeighed (matrix : MatrixData) (weights : List ℕ) (ending : Ending) : Type 0 where
  pub plan : PlanData
  pub flow : List ℕ
  pub names : plan.names ≡ matrix.names
  pub trips : plan.trips ≡ matrix.trips
  -- each two of its sites reach their round trip, and a flow of equal value shows that no such latencies have a smaller weighted sum
  pub accepted : IsAccepted plan
  pub certificate : IsFlowCertificate plan weights flow
  pub optimal : IsWeightedOptimal plan weights
  -- the verdict on it names the weighted sum
  pub verdict : verdict_of plan weights flow ≡ verdicts.Optimal (weighted_sum weights plan.latencies)
  pub printed : ending ≡ Printed (weighted_text plan weights flow)
  -- the text is the JSON of that very plan with these weights and that flow
  pub read_again : json_of (weighted_text plan weights flow) ≡ Some (weighted_data plan weights flow)

-- what is answered to a text whose matrix was read, where it has weights for its sites
abbrev pub IsWeighedText : List ℕ → Ending → MatrixData → Type 0
IsWeighedText text ending matrix = IsOkAnd (weights_of_text (length matrix.names) text) (λ weights. IsWeighed matrix weights ending)

-- the end over a text whose matrix was read
abbrev pub EndsOverMatrix : List ℕ → MatrixData → Ending → Type 0
EndsOverMatrix text matrix ending = RefusedOr (weights_refusal text matrix) ending (IsWeighedText text ending matrix)

-- what is answered to a text that is a matrix with weights
abbrev pub IsWeighAnswer : Ending → List ℕ → Type 0
IsWeighAnswer ending text = IsOkAnd (matrix_of_text text) (IsWeighedText text ending)

-- what a run of `weigh` does, whatever end it comes to
pub record WeighRun (before after : Outside) (ending : Ending) : Type 0 where
  pub reads : ReadsInput Weigh before.input after.input ending (IsWeighAnswer ending)
  pub bench : after.bench ≡ before.bench
  pub disk : after.disk ≡ before.disk
