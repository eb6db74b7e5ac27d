-- The verdict on a plan that was read is what `check` answers.
use Rattle.std.proofs.Common.{◌≡◌, ℕ, List, ◌++◌, Result, Ok, IsOkAnd, codes, decimal, refl, sym, subst, arith}
use Rattle.commit_offsets.specs.declared.refusal.PlanRefusal.{PlanRefusal}
use Rattle.commit_offsets.specs.Reading.{plan_of_text}
use Rattle.helios_model.specs.declared.plans.Certificate.{Certificate}
use Rattle.helios_model.specs.Optimal.{IsOptimal}
use Rattle.helios_model.specs.Plans.{PlanData}
use Rattle.plan_certificate.specs.declared.verdict.Verdict.{Verdict}
use Rattle.plan_certificate.specs.declared.verdict.Verdict.TheVariants.{Optimal, Short, NoPairing, ValueDiffers}
use Rattle.plan_certificate.specs.Says.{Says}
use Rattle.helios_top.specs.declared.ending.Ending.TheVariants.{Judged}
use Rattle.helios_top.specs.declared.ending.Refusal.TheVariants.{OfPlan}
use Rattle.helios_top.specs.declared.words.Command.TheVariants.{Check}
use Rattle.helios_top.specs.Answers.{EndsOver}
use Rattle.helios_top.specs.Ending.{RefusedOr, line, status_of, text_of}
use Rattle.helios_top.specs.Refusals.{refusal_in}
use Rattle.helios_top.specs.Runs.Check.{IsBest, IsJudged}

optimal_line : (total : ℕ) → text_of (Judged (Optimal total)) ≡ line (codes "optimal " ++ decimal total)
unfolding text_of
optimal_line total = refl

best : (plan : PlanData) (pair : List ℕ) (verdict : Verdict) → Says plan pair verdict → ((total : ℕ) → verdict ≡ Optimal total → IsOptimal plan)
    → status_of (Judged verdict) ≡ 0 → IsBest plan pair (Judged verdict)
best plan pair (Optimal total) says proved zero = record {
  accepted = says.0;
  certificate = says.1;
  optimal = proved total refl;
  printed = subst (λ (n : ℕ). text_of (Judged (Optimal total)) ≡ line (codes "optimal " ++ decimal n)) says.2 (optimal_line total);
}
best plan pair (Short i j) says proved zero = absurd (omega arith)
best plan pair (NoPairing i) says proved zero = absurd (omega arith)
best plan pair (ValueDiffers given value) says proved zero = absurd (omega arith)

-- a plan that was read is answered by the verdict on it
pub check_ends : (text : List ℕ) (plan : PlanData) (certificate : Certificate) (verdict : Verdict) → plan_of_text text ≡ Ok (plan, certificate)
    → Says plan certificate.pair verdict → ((total : ℕ) → verdict ≡ Optimal total → IsOptimal plan) → EndsOver Check text (Judged verdict)
check_ends text plan certificate verdict read says proved =
    subst (λ (said : Result (PlanData × Certificate) PlanRefusal). RefusedOr (refusal_in OfPlan said) (Judged verdict) (IsOkAnd said (λ r. IsJudged r.0 r.1.pair (Judged verdict))))
    (sym read) (tt, record { verdict = verdict; judged = refl; says = says; best = best plan certificate.pair verdict says proved })
