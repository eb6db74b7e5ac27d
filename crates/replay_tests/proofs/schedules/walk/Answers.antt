use Rattle.std.proofs.Common.{◌≡◌, ◌∙◌, ap, sym, subst, ◌<◌, [], ◌∷◌, ◌++◌, get_or, length, arith}
use Rattle.schedule_text.specs.Steps.{IsStep}
use Rattle.schedule_replay.specs.Walks.{IsWalkAt}
use Rattle.replay_tests.proofs.schedules.walk.Goals as goal

pub loop-number-init : goal.loop-number-init
loop-number-init c = record { stands = ([], c.in_ok-walk.ensures.starts) }

pub step-requires : goal.step-requires
step-requires c =
    let plan_is : c.loop-number.walk.plan ≡ c.args.schedule.now.plan = c.loop-number.invariant.stands.1.stands.of_plan in
    let at : c.index-steps-number.result ≡ get_or c.args.schedule.now.steps c.loop-number.number c.index-steps-number.result =
    c.index-steps-number.is ∙ ap (λ ss. get_or ss c.loop-number.number c.index-steps-number.result) c.items-steps.ensures in
    let low : c.loop-number.number < length c.args.schedule.now.steps = omega (arith, c.loop-number-test.true, c.requires.few) in
    record {
      planned = subst (λ pl. IsStep pl c.index-steps-number.result) (sym plan_is)
          (subst (IsStep c.args.schedule.now.plan) (sym at) (c.requires.replayable.each c.loop-number.number c.index-steps-number.result low));
      stands = (
        c.loop-number.invariant.stands.0,
        subst (λ pl. IsWalkAt pl c.loop-number.invariant.stands.0 c.loop-number.walk c.loop-number.bench) (sym plan_is) c.loop-number.invariant.stands.1,
      );
    }

pub loop-number-preserved : goal.loop-number-preserved
loop-number-preserved c =
    let plan_is : c.loop-number.walk.plan ≡ c.args.schedule.now.plan = c.loop-number.invariant.stands.1.stands.of_plan in
    let here = subst (λ pl. IsWalkAt pl c.loop-number.invariant.stands.0 c.loop-number.walk c.loop-number.bench) (sym plan_is) c.loop-number.invariant.stands.1 in
    record {
      stands = (
        c.loop-number.invariant.stands.0 ++ c.index-steps-number.result ∷ [],
        subst (λ pl. IsWalkAt pl (c.loop-number.invariant.stands.0 ++ c.index-steps-number.result ∷ []) c.in_ok-walk-2.walk c.step.new.bench) plan_is
            (c.in_ok-walk-2.ensures.goes_on c.loop-number.invariant.stands.0 here),
      );
    }
