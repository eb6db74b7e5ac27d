-- What is said of a plan, weights and a flow is said by one verdict alone.
use Rattle.std.proofs.Common.{◌≡◌, inl, inr, ℕ, Bool, true, false, ◌||◌, cond, List, refl, sym, ◌∙◌, ap}
use Rattle.std.specs.Prelude.{◌==◌, not, slice_index}
use Rattle.std.proofs.lemmas.Bool.{cases_eq, eq-eqb, ne_eqb}
use Rattle.helios_model.specs.Passing.{EachSearchFindsFirst}
use Rattle.helios_model.specs.Plans.{PlanData, IsAccepted, count_of}
use Rattle.helios_model.specs.Short.{EachShortPairIsFound, IsFirstShort}
use Rattle.weighted_plan.specs.Flows.{column_sum, flow_value, row_sum, IsBalanced}
use Rattle.weighted_plan.specs.Says.{IsFirstUnbalanced, Says}
use Rattle.weighted_plan.specs.Verdict.{is_unbalanced, flowing, judged, verdict_of, weighed}
use Rattle.weighted_plan.specs.Weighted.{weighted_sum}
use Rattle.weighted_plan.specs.declared.verdict.WeightedVerdict.{WeightedVerdict}
use Rattle.weighted_plan.specs.declared.verdict.WeightedVerdict.TheVariants as verdicts

either : (b c : Bool) → b ≡ false → (not b || c) ≡ true
either true c first = cc
either false c first = refl

second : (b c : Bool) → c ≡ false → (b || not c) ≡ true
second true c h = refl
second false true h = cc
second false false h = refl

both : (b c : Bool) → b ≡ true → c ≡ true → (not b || not c) ≡ false
both true true first last = refl
both true false first last = cc
both false c first last = cc

balanced_test : (n : ℕ) (weights flow : List ℕ) (i : ℕ) → IsBalanced n weights flow i → is_unbalanced n weights flow i ≡ false
balanced_test n weights flow i balanced = both (row_sum n flow i == slice_index weights i) (column_sum n flow i == slice_index weights i)
    (eq-eqb (row_sum n flow i) (slice_index weights i) balanced.0) (eq-eqb (column_sum n flow i) (slice_index weights i) balanced.1)

unbalanced_test : (n : ℕ) (weights flow : List ℕ) (i : ℕ) → (IsBalanced n weights flow i → ⊥) → is_unbalanced n weights flow i ≡ true
unbalanced_test n weights flow i unbalanced = elim (cases_eq (row_sum n flow i) (slice_index weights i)) [
  | inl row ↦ second (not (row_sum n flow i == slice_index weights i)) (column_sum n flow i == slice_index weights i)
      (ne_eqb (column_sum n flow i) (slice_index weights i) (λ column. unbalanced (row, column)))
  | inr other ↦ either (row_sum n flow i == slice_index weights i) (not (column_sum n flow i == slice_index weights i)) (ne_eqb (row_sum n flow i) (slice_index weights i) other)
]

-- the verdict that says what stands is the one that the plan, the weights and the flow have
pub verdict_is : EachSearchFindsFirst → EachShortPairIsFound → (plan : PlanData) (weights flow : List ℕ) (verdict : WeightedVerdict) → Says plan weights flow verdict → verdict ≡ verdict_of plan weights flow
unfolding verdict_of
verdict_is finds shorts plan weights flow (verdicts.Short i j) says = sym (ap (judged plan weights flow) ((shorts plan).found i j says))
verdict_is finds shorts plan weights flow (verdicts.BadFlow i) says = sym (
    ap (judged plan weights flow) ((shorts plan).none says.0)
    ∙ ap (flowing plan weights flow) ((finds (is_unbalanced (count_of plan) weights flow) (count_of plan)).found i says.1.within
    (unbalanced_test (count_of plan) weights flow i says.1.unbalanced) (λ k before. balanced_test (count_of plan) weights flow k (says.1.before k before))))
verdict_is finds shorts plan weights flow (verdicts.ValueDiffers given value) says = sym (
    ap (judged plan weights flow) ((shorts plan).none says.0)
    ∙ ap (flowing plan weights flow) ((finds (is_unbalanced (count_of plan) weights flow) (count_of plan)).none (λ k low. balanced_test (count_of plan) weights flow k (says.1 k low)))
    ∙ ap (λ n. weighed n (flow_value plan flow)) (sym says.2)
    ∙ ap (weighed given) (sym says.3)
    ∙ ap (λ b. cond b (verdicts.Optimal given) (verdicts.ValueDiffers given value)) (ne_eqb given value says.4))
verdict_is finds shorts plan weights flow (verdicts.Optimal total) says = sym (
    ap (judged plan weights flow) ((shorts plan).none says.0)
    ∙ ap (flowing plan weights flow) ((finds (is_unbalanced (count_of plan) weights flow) (count_of plan)).none (λ k low. balanced_test (count_of plan) weights flow k (says.1.balanced k low)))
    ∙ ap (λ b. cond b (verdicts.Optimal (weighted_sum weights plan.latencies)) (verdicts.ValueDiffers (weighted_sum weights plan.latencies) (flow_value plan flow)))
    (eq-eqb (weighted_sum weights plan.latencies) (flow_value plan flow) says.1.value)
    ∙ ap verdicts.Optimal (sym says.2))

pub short_is : EachSearchFindsFirst → EachShortPairIsFound → (plan : PlanData) (weights flow : List ℕ) (i j : ℕ) → IsFirstShort plan i j → verdicts.Short i j ≡ verdict_of plan weights flow
short_is finds shorts plan weights flow i j short = verdict_is finds shorts plan weights flow (verdicts.Short i j) short

pub unbalanced_is : EachSearchFindsFirst → EachShortPairIsFound → (plan : PlanData) (weights flow : List ℕ) (i : ℕ) → IsAccepted plan → IsFirstUnbalanced (count_of plan) weights flow i → verdicts.BadFlow i ≡ verdict_of plan weights flow
unbalanced_is finds shorts plan weights flow i accepted unbalanced = verdict_is finds shorts plan weights flow (verdicts.BadFlow i) (accepted, unbalanced)
