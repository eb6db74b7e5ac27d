use Rattle.std.proofs.Common.{codes, if◌then◌else◌, sym, subst, List, Some}
use Rattle.schedule_text.specs.declared.planned.Planned.{Planned}
use Rattle.schedule_text.specs.declared.steps.Step.{Step}
use Rattle.schedule_text.specs.declared.steps.Step.TheVariants.{Batch}
use Rattle.schedule_replay.specs.Progress.{progress}
use Rattle.schedule_replay.specs.Report.{step_line}
use Rattle.schedule_replay.specs.Standing.{IsBatchAt, IsBetween, IsPlaced}
use Rattle.schedule_replay.specs.Taking.{HasAdded}
use Rattle.schedule_replay.proofs.Seated.{on_err}
use Rattle.schedule_replay.proofs.NextBatch.{batch_each, batch_few, batch_journaled}
use Rattle.schedule_replay.proofs.Between.{run_between}
use Rattle.schedule_replay.proofs.StoppedBatch.{stop_between, stop_placed}
use Rattle.schedule_replay.proofs.batches.run_stopped.Goals as goal

pub stop_batch-requires-clause-few : goal.stop_batch-requires-clause-few
stop_batch-requires-clause-few c =
    batch_few c.args.plan.now c.requires.steps c.args.number c.args.site c.requires.inputs (Some c.args.stop) c.args.entries c.requires.is.asked c.requires.is.next

pub stop_batch-requires-clause-journaled : goal.stop_batch-requires-clause-journaled
stop_batch-requires-clause-journaled c =
    batch_journaled c.args.plan.now c.requires.steps c.args.number c.args.site c.requires.inputs c.args.stop c.args.entries c.requires.is.asked c.requires.is.next

pub stop_batch-requires-clause-each : goal.stop_batch-requires-clause-each
stop_batch-requires-clause-each c =
    batch_each c.each_record_is_spellable.ensures c.each_sent_is_message.ensures c.args.plan.now c.requires.steps c.args.number c.args.site c.requires.inputs (Some c.args.stop) c.args.host
    c.args.entries c.args.disk.now c.args.output.now c.requires.is

pub stop_batch-requires-clause-low : goal.stop_batch-requires-clause-low
stop_batch-requires-clause-low c = c.requires.is.low

pub returns-in_err-host-clause-between : goal.returns-in_err-host-clause-between
returns-in_err-host-clause-between c =
    on_err ((steps : List Step) (inputs : List Planned) → IsBatchAt c.args.plan.now steps c.args.number c.args.site inputs (Some c.args.stop) c.args.host c.args.entries c.args.disk.now c.args.output.now
    → IsBetween c.args.plan.now (progress c.args.plan.now steps) (Batch c.args.site inputs (Some c.args.stop)) c.stop_batch.new.disk)
    c.from_residual.result
    (λ steps inputs h.
    run_between c.args.plan.now steps c.args.number c.args.site inputs (Some c.args.stop) c.args.host c.args.entries c.args.disk.now c.stop_batch.new.disk c.args.output.now h
    c.in_err-host.ensures.kept)

pub returns-in_err-tell_stopped-clause-between : goal.returns-in_err-tell_stopped-clause-between
returns-in_err-tell_stopped-clause-between c =
    on_err ((steps : List Step) (inputs : List Planned) → IsBatchAt c.args.plan.now steps c.args.number c.args.site inputs (Some c.args.stop) c.args.host c.args.entries c.args.disk.now c.args.output.now
    → IsBetween c.args.plan.now (progress c.args.plan.now steps) (Batch c.args.site inputs (Some c.args.stop)) c.stop_batch.new.disk)
    c.from_residual-in_err-tell_stopped.result
    (λ steps inputs h.
    stop_between c.args.plan.now steps c.args.number c.args.site inputs c.args.stop c.args.host c.in_ok-host.field-0.host c.args.entries c.args.disk.now c.stop_batch.new.disk
    c.args.output.now h c.in_ok-host.ensures.seated)

pub returns-clause-placed : goal.returns-clause-placed
returns-clause-placed c = λ steps inputs h.
    subst (λ k. IsPlaced c.args.plan.now (progress c.args.plan.now steps) (Batch c.args.site inputs (Some c.args.stop)) (record { host = c.in_ok-host.field-0.host; commits = c.in_ok-host.field-0.last; are_new = k })
    c.stop_batch.new.disk c.tell_stopped.new.self) (sym c.is_kept-are_new.ensures)
    (stop_placed c.batch_moves_one_node.ensures c.host_laws.ensures.goes_on c.host_laws.ensures.recovered c.host_laws.ensures.suffice c.args.plan.now steps c.args.number c.args.site inputs
    c.args.stop c.args.host c.in_ok-host.field-0.host c.args.entries c.in_ok-host.field-0.last c.args.disk.now c.stop_batch.new.disk c.args.output.now c.tell_stopped.new.self h
    c.in_ok-host.ensures.seated c.in_ok-host.ensures.last
    (subst (λ k. HasAdded c.args.output.now (step_line c.args.number c.args.site (if k then codes "kept" else codes "lost")) c.tell_stopped.new.self) c.is_kept-are_new.ensures c.in_ok-tell_stopped.ensures))
