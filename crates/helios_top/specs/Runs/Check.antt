-- `helios check`: the input is a plan with its pairing, and the line is the verdict on it.
use Rattle.std.specs.Prelude.{◌≡◌, ℕ, List, ◌++◌, IsOkAnd, codes, decimal, sum}
use Rattle.helios_model.specs.Optimal.{IsCertificate, IsOptimal}
use Rattle.helios_model.specs.Plans.{IsAccepted, PlanData}
use Rattle.commit_offsets.specs.Reading.{plan_of_text}
use Rattle.plan_certificate.specs.declared.verdict.Verdict.{Verdict}
use Rattle.plan_certificate.specs.Says.{Says}
use Rattle.helios_top.specs.declared.words.Command.TheVariants.{Check}
use Rattle.helios_top.specs.declared.ending.Ending.{Ending}
use Rattle.helios_top.specs.declared.ending.Ending.TheVariants.{Judged}
use Rattle.helios_top.specs.Ending.{line, status_of, text_of}
use Rattle.helios_top.specs.Inputs.{ReadsInput}
use Rattle.helios_top.specs.Outside.{Outside}

-- the plan is accepted, no accepted plan over its round trips has a smaller average, its pairing shows that, and the line says so
pub record IsBest (plan : PlanData) (pair : List ℕ) (ending : Ending) : Type 0 where
  pub accepted : IsAccepted plan
  pub certificate : IsCertificate plan pair
  pub optimal : IsOptimal plan
  pub printed : text_of ending ≡ line (codes "optimal " ++ decimal (sum plan.latencies))

-- the end is the one verdict that is true of the plan and its pairing; status 0 stands for the best plan
pub record IsJudged (plan : PlanData) (pair : List ℕ) (ending : Ending) : Type 0 where
  pub verdict : Verdict
  pub judged : ending ≡ Judged verdict
  pub says : Says plan pair verdict
  pub best : status_of ending ≡ 0 → IsBest plan pair ending

-- what is answered to a text that is a plan
abbrev pub IsCheckAnswer : Ending → List ℕ → Type 0
IsCheckAnswer ending text = IsOkAnd (plan_of_text text) (λ read. IsJudged read.0 read.1.pair ending)

-- what a run of `check` does, whatever end it comes to
pub record CheckRun (before after : Outside) (ending : Ending) : Type 0 where
  pub reads : ReadsInput Check before.input after.input ending (IsCheckAnswer ending)
  pub bench : after.bench ≡ before.bench
  pub disk : after.disk ≡ before.disk
