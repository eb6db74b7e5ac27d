-- What each verdict says of a plan and a pairing. No two of them hold together.
use Rattle.std.specs.Prelude.{◌≡◌, ◌≢◌, ℕ, List, length, sum}
use Rattle.helios_model.specs.Optimal.{IsCertificate, pair_value}
use Rattle.helios_model.specs.Plans.{PlanData, IsAccepted, count_of}
use Rattle.helios_model.specs.Short.{IsFirstShort}
use Rattle.plan_certificate.specs.Verdict.{IsFirstUnpaired, ArePaired}
use Rattle.plan_certificate.specs.declared.verdict.Verdict.{Verdict}
use Rattle.plan_certificate.specs.declared.verdict.Verdict.TheVariants as verdicts

abbrev pub Says : PlanData → List ℕ → Verdict → Type 0
Says plan pair (verdicts.Short i j) = IsFirstShort plan i j
Says plan pair (verdicts.NoPairing i) = IsAccepted plan × IsFirstUnpaired (count_of plan) pair i
Says plan pair (verdicts.ValueDiffers given value) =
    IsAccepted plan × ArePaired (count_of plan) pair (length pair) × (given ≡ sum plan.latencies) × (value ≡ pair_value plan pair) × (given ≢ value)
Says plan pair (verdicts.Optimal total) = IsAccepted plan × IsCertificate plan pair × (total ≡ sum plan.latencies)
