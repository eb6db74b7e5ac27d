use Rattle.std.proofs.Common.{◌≡◌, ◌∙◌, ap, sym, subst, refl, Ok, Err, ◌<◌, [], ◌∷◌, ◌++◌, get_or, take, length, arith}
use Rattle.std.proofs.lemmas.List.{take_all}
use Rattle.helios_model.specs.Serial.{IsSerial}
use Rattle.schedule_text.specs.Steps.{IsStep}
use Rattle.schedule_replay.specs.declared.walk.Walk.{Walk}
use Rattle.schedule_replay.specs.Progress.{progress, reached}
use Rattle.schedule_replay.specs.Refusals.{first_refusal, refusal_of}
use Rattle.schedule_replay.specs.Replay.{IsReport}
use Rattle.schedule_replay.specs.Seats.{BenchBetween, BenchStands}
use Rattle.schedule_replay.specs.Walks.{IsWalkAt, RefusesAs}
use Rattle.schedule_replay.proofs.Passes.{progress_nil}
use Rattle.schedule_replay.proofs.Replays.{cut_short, loop_goes, passed_on, replay_refused, safe_at}
use Rattle.schedule_replay.proofs.Walking.{bench_stands}
use Rattle.schedule_replay.proofs.replaying.replay.Goals as goal

pub loop-step-init : goal.loop-step-init
loop-step-init c = record { stands = c.in_ok-walk.ensures.starts; unrefused = refl }

pub step-requires : goal.step-requires
step-requires c =
    let plan_is : c.loop-step.walk.plan ≡ c.args.schedule.now.plan = c.loop-step.invariant.stands.stands.of_plan in
    let at : c.step-item.result ≡ get_or c.args.schedule.now.steps c.loop-step.step-index c.step-item.result =
    c.step-item.is ∙ ap (λ ss. get_or ss c.loop-step.step-index c.step-item.result) c.items-step-items.ensures in
    let low : c.loop-step.step-index < length c.args.schedule.now.steps = omega (arith, ap length c.items-step-items.ensures, c.loop-step-test.true) in
    record {
      planned = subst (λ pl. IsStep pl c.step-item.result) (sym plan_is) (subst (IsStep c.args.schedule.now.plan) (sym at) (c.requires.each c.loop-step.step-index c.step-item.result low));
      stands = (
        take c.loop-step.step-index c.args.schedule.now.steps,
        subst (λ pl. IsWalkAt pl (take c.loop-step.step-index c.args.schedule.now.steps) c.loop-step.walk c.loop-step.bench) (sym plan_is) c.loop-step.invariant.stands,
      );
    }

pub loop-step-preserved : goal.loop-step-preserved
loop-step-preserved c =
    let plan_is : c.loop-step.walk.plan ≡ c.args.schedule.now.plan = c.loop-step.invariant.stands.stands.of_plan in
    let at : c.step-item.result ≡ get_or c.args.schedule.now.steps c.loop-step.step-index c.step-item.result =
    c.step-item.is ∙ ap (λ ss. get_or ss c.loop-step.step-index c.step-item.result) c.items-step-items.ensures in
    let low : c.loop-step.step-index < length c.args.schedule.now.steps = omega (arith, ap length c.items-step-items.ensures, c.loop-step-test.true) in
    let here = subst (λ pl. IsWalkAt pl (take c.loop-step.step-index c.args.schedule.now.steps) c.loop-step.walk c.loop-step.bench) (sym plan_is) c.loop-step.invariant.stands in
    let both = loop_goes c.args.schedule.now.plan c.args.schedule.now.steps c.loop-step.step-index c.step-item.result c.in_ok-walk-2.walk c.step.new.bench c.in_ok-walk-2.walk low at
    c.loop-step.invariant.unrefused
    (subst (λ pl. RefusesAs {T = Walk} (refusal_of (progress pl (take c.loop-step.step-index c.args.schedule.now.steps)) c.step-item.result) (Ok c.in_ok-walk-2.walk)) plan_is
    (c.in_ok-walk-2.ensures.refused (take c.loop-step.step-index c.args.schedule.now.steps) here))
    (subst (λ pl. IsWalkAt pl (take c.loop-step.step-index c.args.schedule.now.steps ++ c.step-item.result ∷ []) c.in_ok-walk-2.walk c.step.new.bench) plan_is
    (c.in_ok-walk-2.ensures.goes_on (take c.loop-step.step-index c.args.schedule.now.steps) here)) in
    record { stands = both.0; unrefused = both.1 }

pub returns-in_err-walk-clause-replays : goal.returns-in_err-walk-clause-replays
returns-in_err-walk-clause-replays c =
    cut_short c.args.schedule.now.plan c.args.schedule.now.steps 0 c.start.new.bench c.from_residual.result (omega arith) refl
    (subst (λ p. BenchStands c.args.schedule.now.plan p.world c.start.new.bench) (sym (progress_nil c.args.schedule.now.plan)) c.in_err-walk.ensures.empty) c.from_residual.ensures.1

pub returns-in_err-report-clause-replays : goal.returns-in_err-report-clause-replays
returns-in_err-report-clause-replays c =
    cut_short c.args.schedule.now.plan c.args.schedule.now.steps c.loop-step.step-index c.loop-step.bench c.from_residual-in_err-report.result
    (omega (arith, ap length c.items-step-items.ensures, c.loop-step.auto.step-index-end)) c.loop-step.invariant.unrefused
    (bench_stands c.args.schedule.now.plan (take c.loop-step.step-index c.args.schedule.now.steps) c.loop-step.walk c.loop-step.bench c.loop-step.invariant.stands)
    c.from_residual-in_err-report.ensures.1

ended : (c : goal.In_ok-report) → take c.loop-step.step-index c.args.schedule.now.steps ≡ c.args.schedule.now.steps
ended c = take_all c.loop-step.step-index c.args.schedule.now.steps (omega (arith, ap length c.items-step-items.ensures, c.loop-step-test.false))

walked : (c : goal.In_ok-report) → IsWalkAt c.args.schedule.now.plan c.args.schedule.now.steps c.loop-step.walk c.loop-step.bench
walked c = subst (λ ss. IsWalkAt c.args.schedule.now.plan ss c.loop-step.walk c.loop-step.bench) (ended c) c.loop-step.invariant.stands

reported : (c : goal.In_ok-report) → IsReport c.args.schedule.now.plan c.args.schedule.now.steps c.in_ok-report.report
reported c =
    let plan_is : c.loop-step.walk.plan ≡ c.args.schedule.now.plan = c.loop-step.invariant.stands.stands.of_plan in
    subst (λ pl. IsReport pl c.args.schedule.now.steps c.in_ok-report.report) plan_is
    (c.in_ok-report.ensures.report c.args.schedule.now.steps c.loop-step.bench
    (subst (λ pl. IsWalkAt pl c.args.schedule.now.steps c.loop-step.walk c.loop-step.bench) (sym plan_is) (walked c)))

pub returns-clause-replays : goal.returns-clause-replays
returns-clause-replays c = (
  ap (first_refusal c.args.schedule.now.plan) (sym (ended c)) ∙ c.loop-step.invariant.unrefused,
  reported c,
  bench_stands c.args.schedule.now.plan c.args.schedule.now.steps c.loop-step.walk c.loop-step.bench (walked c),
)

pub returns-clause-reached : goal.returns-clause-reached
returns-clause-reached c = (walked c).reaches

pub returns-clause-safe : goal.returns-clause-safe
returns-clause-safe c = safe_at c.each_world_is_safe.ensures c.args.schedule.now.plan (reached c.args.schedule.now.plan c.args.schedule.now.steps) c.requires.accepted (walked c).reaches

pub returns-clause-serial : goal.returns-clause-serial
returns-clause-serial c =
    subst IsSerial (sym (reported c).commits)
    (safe_at c.each_world_is_safe.ensures c.args.schedule.now.plan (reached c.args.schedule.now.plan c.args.schedule.now.steps) c.requires.accepted (walked c).reaches).serial

pub returns-in_err-walk-2-clause-replays : goal.returns-in_err-walk-2-clause-replays
returns-in_err-walk-2-clause-replays c =
    let plan_is : c.loop-step.walk.plan ≡ c.args.schedule.now.plan = c.loop-step.invariant.stands.stands.of_plan in
    let at : c.step-item.result ≡ get_or c.args.schedule.now.steps c.loop-step.step-index c.step-item.result =
    c.step-item.is ∙ ap (λ ss. get_or ss c.loop-step.step-index c.step-item.result) c.items-step-items.ensures in
    let low : c.loop-step.step-index < length c.args.schedule.now.steps = omega (arith, ap length c.items-step-items.ensures, c.loop-step-test.true) in
    let here = subst (λ pl. IsWalkAt pl (take c.loop-step.step-index c.args.schedule.now.steps) c.loop-step.walk c.loop-step.bench) (sym plan_is) c.loop-step.invariant.stands in
    passed_on c.args.schedule.now.plan c.args.schedule.now.steps c.step.new.bench c.from_residual-in_err-walk-2.result c.in_err-walk-2.field-0.0 c.from_residual-in_err-walk-2.ensures.1
    (replay_refused Walk c.args.schedule.now.plan c.args.schedule.now.steps c.loop-step.step-index c.step-item.result c.loop-step.walk c.loop-step.bench c.step.new.bench c.in_err-walk-2.field-0.0 low at
    c.loop-step.invariant.unrefused c.loop-step.invariant.stands
    (subst (λ pl. RefusesAs {T = Walk} (refusal_of (progress pl (take c.loop-step.step-index c.args.schedule.now.steps)) c.step-item.result) (Err c.in_err-walk-2.field-0.0)) plan_is
    (c.in_err-walk-2.ensures.refused (take c.loop-step.step-index c.args.schedule.now.steps) here))
    c.in_err-walk-2.ensures.unmoved
    (λ is. subst (λ pl. BenchBetween pl (progress pl (take c.loop-step.step-index c.args.schedule.now.steps)) c.step-item.result c.step.new.bench) plan_is
    (c.in_err-walk-2.ensures.no_memory (ap Err is) (take c.loop-step.step-index c.args.schedule.now.steps) here)))
