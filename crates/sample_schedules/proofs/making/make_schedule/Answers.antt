use Rattle.std.proofs.Common.{◌≡◌, ◌+◌, ◌-◌, ◌<◌, List, [], ◌++◌, length, ap, sym, ◌∙◌, subst, arith}
use Rattle.std.specs.List.{All}
use Rattle.std.proofs.lemmas.List.Elements.{All-nil}
use Rattle.helios_model.specs.Plans.{PlanData}
use Rattle.schedule_text.specs.Steps.{IsStep}
use Rattle.schedule_text.specs.declared.steps.Step.{Step}
use Rattle.sample_schedules.specs.Generator.{line_plan, steps_from}
use Rattle.sample_schedules.specs.Pushes.{PushWhatWasPulled}
use Rattle.sample_schedules.proofs.Fitting.{AllFit, all_fit}
use Rattle.sample_schedules.proofs.Going.{none_more, one_more}
use Rattle.sample_schedules.proofs.making.make_schedule.Goals as goal

pub loop-i-preserved : goal.loop-i-preserved
loop-i-preserved c =
    let more = one_more c.loop-i.made.items c.args.sites c.args.steps c.loop-i.i c.loop-i.generator.targets.items c.loop-i.generator.draws.state c.loop-i-test.true in (
      cc (c.in_ok-step.ensures.sites, c.loop-i.invariant.0),
      cc (more, c.in_ok-step.ensures.step, c.in_ok-step.ensures.state, c.in_ok-step.ensures.targets, c.in_ok-push.ensures.items, c.loop-i.invariant.0, c.loop-i.invariant.1),
    )

pub returns-clause-exact : goal.returns-clause-exact
returns-clause-exact c =
    let done = none_more c.loop-i.made.items c.args.sites c.args.steps c.loop-i.i c.loop-i.generator.targets.items c.loop-i.generator.draws.state (omega arith) in
    let whole : c.new-steps.result ≡ steps_from c.args.sites c.args.steps 0 [] c.args.number = c.new-steps.ensures ∙ sym done ∙ c.loop-i.invariant.1 in
    cc (whole, c.in_ok-plan.ensures.exact)

pub returns-clause-count : goal.returns-clause-count
returns-clause-count c =
    let done = none_more c.loop-i.made.items c.args.sites c.args.steps c.loop-i.i c.loop-i.generator.targets.items c.loop-i.generator.draws.state (omega arith) in
    let whole : c.new-steps.result ≡ steps_from c.args.sites c.args.steps 0 [] c.args.number = c.new-steps.ensures ∙ sym done ∙ c.loop-i.invariant.1 in
    let fit = all_fit c.args.sites c.args.steps 0 [] c.args.number c.requires.some (omega arith) (All-nil (λ to. to < c.args.sites)) in
    ap length whole ∙ fit.counted

pub returns-clause-each : goal.returns-clause-each
returns-clause-each c =
    let done = none_more c.loop-i.made.items c.args.sites c.args.steps c.loop-i.i c.loop-i.generator.targets.items c.loop-i.generator.draws.state (omega arith) in
    let whole : c.new-steps.result ≡ steps_from c.args.sites c.args.steps 0 [] c.args.number = c.new-steps.ensures ∙ sym done ∙ c.loop-i.invariant.1 in
    let fit = all_fit c.args.sites c.args.steps 0 [] c.args.number c.requires.some (omega arith) (All-nil (λ to. to < c.args.sites)) in
    subst (λ (plan : PlanData). All (IsStep plan) c.new-steps.result) (sym c.in_ok-plan.ensures.exact) (subst (λ (steps : List Step). All (IsStep (line_plan c.args.sites)) steps) (sym whole) fit.each)

pub returns-clause-pushes : goal.returns-clause-pushes
returns-clause-pushes c =
    let done = none_more c.loop-i.made.items c.args.sites c.args.steps c.loop-i.i c.loop-i.generator.targets.items c.loop-i.generator.draws.state (omega arith) in
    let whole : c.new-steps.result ≡ steps_from c.args.sites c.args.steps 0 [] c.args.number = c.new-steps.ensures ∙ sym done ∙ c.loop-i.invariant.1 in
    let fit = all_fit c.args.sites c.args.steps 0 [] c.args.number c.requires.some (omega arith) (All-nil (λ to. to < c.args.sites)) in
    subst (λ (steps : List Step). PushWhatWasPulled [] steps) (sym whole) fit.pushes
