use Rattle.std.proofs.Common.{subst, List, None}
use Rattle.schedule_text.specs.declared.planned.Planned.{Planned}
use Rattle.schedule_text.specs.declared.steps.Step.{Step}
use Rattle.schedule_text.specs.declared.steps.Step.TheVariants.{Batch}
use Rattle.schedule_replay.specs.Progress.{progress}
use Rattle.schedule_replay.specs.Taking.{HasTold}
use Rattle.schedule_replay.specs.Standing.{IsBatchAt, IsBetween}
use Rattle.schedule_replay.proofs.Seated.{on_err}
use Rattle.schedule_replay.proofs.NextBatch.{batch_each, batch_few, batch_some}
use Rattle.schedule_replay.proofs.Between.{run_between}
use Rattle.schedule_replay.proofs.AnsweredBatch.{done_between, run_placed, run_room, run_spelled}
use Rattle.schedule_replay.proofs.batches.run.Goals as goal

pub run_batch-requires-clause-some : goal.run_batch-requires-clause-some
run_batch-requires-clause-some c = batch_some c.args.plan.now c.requires.steps c.args.number c.args.site c.requires.inputs None c.args.entries c.requires.is.asked c.requires.is.next

pub run_batch-requires-clause-few : goal.run_batch-requires-clause-few
run_batch-requires-clause-few c = batch_few c.args.plan.now c.requires.steps c.args.number c.args.site c.requires.inputs None c.args.entries c.requires.is.asked c.requires.is.next

pub run_batch-requires-clause-each : goal.run_batch-requires-clause-each
run_batch-requires-clause-each c =
    batch_each c.each_record_is_spellable.ensures c.each_sent_is_message.ensures c.args.plan.now c.requires.steps c.args.number c.args.site c.requires.inputs None c.args.host c.args.entries
    c.args.disk.now c.args.output.now c.requires.is

pub run_batch-requires-clause-low : goal.run_batch-requires-clause-low
run_batch-requires-clause-low c = c.requires.is.low

pub returns-in_err-host-clause-between : goal.returns-in_err-host-clause-between
returns-in_err-host-clause-between c =
    on_err ((steps : List Step) (inputs : List Planned) → IsBatchAt c.args.plan.now steps c.args.number c.args.site inputs None c.args.host c.args.entries c.args.disk.now c.args.output.now
    → IsBetween c.args.plan.now (progress c.args.plan.now steps) (Batch c.args.site inputs None) c.run_batch.new.disk)
    c.from_residual.result
    (λ steps inputs h.
    run_between c.args.plan.now steps c.args.number c.args.site inputs None c.args.host c.args.entries c.args.disk.now c.run_batch.new.disk c.args.output.now h c.in_err-host.ensures.kept)

pub tell_all-requires-clause-room : goal.tell_all-requires-clause-room
tell_all-requires-clause-room c =
    run_room c.args.plan.now c.requires.steps c.args.number c.args.site c.requires.inputs c.args.host c.args.entries c.args.disk.now c.args.output.now c.into_items.result.items
    c.in_ok-host.field-0.replies c.requires.is c.in_ok-host.ensures.count c.into_items.ensures

pub tell_all-requires-clause-spelled : goal.tell_all-requires-clause-spelled
tell_all-requires-clause-spelled c =
    run_spelled c.each_record_is_spellable.ensures c.each_sent_is_message.ensures c.each_reply_is_spellable.ensures c.host_laws.ensures.recovered c.args.plan.now c.requires.steps c.args.number
    c.args.site c.requires.inputs c.args.host c.in_ok-host.field-0.host c.args.entries c.args.disk.now c.args.output.now c.in_ok-host.field-0.replies c.into_items.result.items
    c.in_ok-host.field-0.commits c.requires.is c.in_ok-host.ensures.answered c.into_items.ensures

pub returns-in_err-tell_all-clause-between : goal.returns-in_err-tell_all-clause-between
returns-in_err-tell_all-clause-between c =
    on_err ((steps : List Step) (inputs : List Planned) → IsBatchAt c.args.plan.now steps c.args.number c.args.site inputs None c.args.host c.args.entries c.args.disk.now c.args.output.now
    → IsBetween c.args.plan.now (progress c.args.plan.now steps) (Batch c.args.site inputs None) c.run_batch.new.disk)
    c.from_residual-in_err-tell_all.result
    (λ steps inputs h.
    done_between c.args.plan.now steps c.args.number c.args.site inputs c.args.host c.in_ok-host.field-0.host c.args.entries c.args.disk.now c.run_batch.new.disk c.args.output.now h
    c.in_ok-host.ensures.seated)

pub returns-clause-placed : goal.returns-clause-placed
returns-clause-placed c = λ steps inputs h.
    run_placed c.batch_moves_one_node.ensures c.host_laws.ensures.recovered c.args.plan.now steps c.args.number c.args.site inputs c.args.host c.in_ok-host.field-0.host c.args.entries
    c.args.disk.now c.run_batch.new.disk c.args.output.now c.tell_all.new.self c.in_ok-host.field-0.replies c.in_ok-host.field-0.commits h c.in_ok-host.ensures.seated
    c.in_ok-host.ensures.answered
    (subst (λ rs. HasTold c.args.number c.args.site c.args.output.now rs c.tell_all.new.self) c.into_items.ensures c.in_ok-tell_all.ensures)
