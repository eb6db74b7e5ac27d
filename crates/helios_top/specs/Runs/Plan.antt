-- `helios plan`: the input is a matrix of round trips, and what is printed is an optimal plan over it.
use Rattle.std.specs.Prelude.{◌≡◌, ℕ, List, Ok, IsOkAnd}
use Rattle.helios_model.specs.Optimal.{IsCertificate, IsOptimal}
use Rattle.helios_model.specs.Plans.{IsAccepted, MatrixData, PlanData}
use Rattle.commit_offsets.specs.Printing.{plan_text}
use Rattle.commit_offsets.specs.Reading.{plan_of_text}
use Rattle.rtt_matrix.specs.Reading.{matrix_of_text}
use Rattle.helios_top.specs.declared.words.Command.TheVariants.{Plan}
use Rattle.helios_top.specs.declared.ending.Ending.{Ending}
use Rattle.helios_top.specs.declared.ending.Ending.TheVariants.{Printed}
use Rattle.helios_top.specs.Inputs.{ReadsInput}
use Rattle.helios_top.specs.Outside.{Outside}

-- the text of a plan over the matrix is printed
pub record IsPlanned (matrix : MatrixData) (ending : Ending) : Type 0 where
  pub plan : PlanData
  pub pair : List ℕ
  pub names : plan.names ≡ matrix.names
  pub trips : plan.trips ≡ matrix.trips
  -- each two of its sites reach their round trip, and a pairing shows that no such plan has a smaller average
  pub accepted : IsAccepted plan
  pub certificate : IsCertificate plan pair
  pub optimal : IsOptimal plan
  pub printed : ending ≡ Printed (plan_text plan pair)
  -- `check` reads the text as that very plan with that pairing
  pub read_again : plan_of_text (plan_text plan pair) ≡ Ok (plan, record { pair = pair })

-- what is answered to a text that is a matrix
abbrev pub IsPlanAnswer : Ending → List ℕ → Type 0
IsPlanAnswer ending text = IsOkAnd (matrix_of_text text) (λ matrix. IsPlanned matrix ending)

-- what a run of `plan` does, whatever end it comes to
pub record PlanRun (before after : Outside) (ending : Ending) : Type 0 where
  pub reads : ReadsInput Plan before.input after.input ending (IsPlanAnswer ending)
  pub bench : after.bench ≡ before.bench
  pub disk : after.disk ≡ before.disk
