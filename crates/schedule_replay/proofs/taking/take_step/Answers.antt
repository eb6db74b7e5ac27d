use Rattle.std.proofs.Common.{◌∙◌, ap, sym, subst}
use Rattle.schedule_text.specs.declared.steps.Step.TheVariants.{Batch, Restart}
use Rattle.schedule_replay.specs.Standing.{IsBegun}
use Rattle.schedule_replay.proofs.StepBegun.{part_begun, part_between, part_placed}
use Rattle.schedule_replay.proofs.taking.take_step.Goals as goal

pub take_batch-requires : goal.take_batch-requires
take_batch-requires c = (
  c.requires.0,
  subst (λ s. IsBegun c.args.plan.now c.requires.0 c.args.number s c.args.held c.args.disk.now c.count.new.self) (c.in-Batch.is ∙ ap (λ is. Batch c.in-Batch.site is c.in-Batch.stop) (sym c.items.ensures))
      (part_begun c.args.plan.now c.requires.0 c.args.number c.head_size.result c.args.step.now c.args.held c.args.disk.now c.args.output.now c.count.new.self c.requires.1 c.head_size.ensures
      (ap (λ v. v.items) c.count.ensures.text) (ap (λ v. v.items) c.count.ensures.sent) (ap (λ v. v.items) c.count.ensures.commits) c.count.ensures.refusals c.count.ensures.volume),
)

pub restart-requires : goal.restart-requires
restart-requires c = (
  c.requires.0,
  subst (λ s. IsBegun c.args.plan.now c.requires.0 c.args.number s c.args.held c.args.disk.now c.count.new.self) c.in-Restart.is
      (part_begun c.args.plan.now c.requires.0 c.args.number c.head_size.result c.args.step.now c.args.held c.args.disk.now c.args.output.now c.count.new.self c.requires.1 c.head_size.ensures
      (ap (λ v. v.items) c.count.ensures.text) (ap (λ v. v.items) c.count.ensures.sent) (ap (λ v. v.items) c.count.ensures.commits) c.count.ensures.refusals c.count.ensures.volume),
)

pub returns-in-Batch-clause-placed : goal.returns-in-Batch-clause-placed
returns-in-Batch-clause-placed c =
    part_placed c.args.plan.now c.args.number c.args.step.now (Batch c.in-Batch.site c.items.result.now c.in-Batch.stop) c.args.held c.args.disk.now c.take_batch.new.disk c.args.output.now c.count.new.self c.take_batch.new.output c.take_batch.result
    (c.in-Batch.is ∙ ap (λ is. Batch c.in-Batch.site is c.in-Batch.stop) (sym c.items.ensures))
    (λ steps b. part_begun c.args.plan.now steps c.args.number c.head_size.result c.args.step.now c.args.held c.args.disk.now c.args.output.now c.count.new.self b c.head_size.ensures
    (ap (λ v. v.items) c.count.ensures.text) (ap (λ v. v.items) c.count.ensures.sent) (ap (λ v. v.items) c.count.ensures.commits) c.count.ensures.refusals c.count.ensures.volume)
    c.take_batch.ensures.placed

pub returns-in-Batch-clause-between : goal.returns-in-Batch-clause-between
returns-in-Batch-clause-between c =
    part_between c.args.plan.now c.args.number c.args.step.now (Batch c.in-Batch.site c.items.result.now c.in-Batch.stop) c.args.held c.args.disk.now c.take_batch.new.disk c.args.output.now c.count.new.self c.take_batch.result
    (c.in-Batch.is ∙ ap (λ is. Batch c.in-Batch.site is c.in-Batch.stop) (sym c.items.ensures))
    (λ steps b. part_begun c.args.plan.now steps c.args.number c.head_size.result c.args.step.now c.args.held c.args.disk.now c.args.output.now c.count.new.self b c.head_size.ensures
    (ap (λ v. v.items) c.count.ensures.text) (ap (λ v. v.items) c.count.ensures.sent) (ap (λ v. v.items) c.count.ensures.commits) c.count.ensures.refusals c.count.ensures.volume)
    c.take_batch.ensures.between

pub returns-in-Restart-clause-placed : goal.returns-in-Restart-clause-placed
returns-in-Restart-clause-placed c =
    part_placed c.args.plan.now c.args.number c.args.step.now (Restart c.in-Restart.site c.in-Restart.stop) c.args.held c.args.disk.now c.restart.new.disk c.args.output.now c.count.new.self c.restart.new.output c.restart.result
    c.in-Restart.is
    (λ steps b. part_begun c.args.plan.now steps c.args.number c.head_size.result c.args.step.now c.args.held c.args.disk.now c.args.output.now c.count.new.self b c.head_size.ensures
    (ap (λ v. v.items) c.count.ensures.text) (ap (λ v. v.items) c.count.ensures.sent) (ap (λ v. v.items) c.count.ensures.commits) c.count.ensures.refusals c.count.ensures.volume)
    c.restart.ensures.placed

pub returns-in-Restart-clause-between : goal.returns-in-Restart-clause-between
returns-in-Restart-clause-between c =
    part_between c.args.plan.now c.args.number c.args.step.now (Restart c.in-Restart.site c.in-Restart.stop) c.args.held c.args.disk.now c.restart.new.disk c.args.output.now c.count.new.self c.restart.result
    c.in-Restart.is
    (λ steps b. part_begun c.args.plan.now steps c.args.number c.head_size.result c.args.step.now c.args.held c.args.disk.now c.args.output.now c.count.new.self b c.head_size.ensures
    (ap (λ v. v.items) c.count.ensures.text) (ap (λ v. v.items) c.count.ensures.sent) (ap (λ v. v.items) c.count.ensures.commits) c.count.ensures.refusals c.count.ensures.volume)
    c.restart.ensures.between
