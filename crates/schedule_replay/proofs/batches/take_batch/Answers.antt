use Rattle.std.proofs.Common.{◌∙◌, ap, refl, subst, List, Some, None}
use Rattle.helios_model.specs.World.{journal_of}
use Rattle.schedule_text.specs.declared.steps.Step.{Step}
use Rattle.schedule_text.specs.declared.steps.Step.TheVariants.{Batch}
use Rattle.schedule_replay.specs.Progress.{progress}
use Rattle.schedule_replay.specs.Standing.{IsBatchAt, IsBegun, IsBetween}
use Rattle.schedule_replay.proofs.Seated.{on_err, seat_held, seated_holds}
use Rattle.schedule_replay.proofs.NextBatch.{batch_few}
use Rattle.schedule_replay.proofs.BatchBegun.{batch_at, batch_takes, batch_written, begun_between, begun_holds, begun_placed, entries_here}
use Rattle.schedule_replay.proofs.batches.take_batch.Goals as goal

pub host_of-requires : goal.host_of-requires
host_of-requires c = record {
  accepted = c.requires.1.next.accepted;
  here = c.requires.1.next.planned.here;
  held = (journal_of (progress c.args.plan.now c.requires.0).world c.args.site, seat_held c.args.plan.now (progress c.args.plan.now c.requires.0) c.args.site c.args.held c.args.disk.now c.requires.1.seat);
}

pub entries_for-requires : goal.entries_for-requires
entries_for-requires c =
    batch_takes c.each_sent_is_message.ensures c.args.plan.now c.requires.0 c.args.number c.args.site c.args.inputs.now c.args.stop c.args.held c.in_ok-host.host c.as_slice.result.now
    c.args.disk.now c.host_of.new.disk c.args.output.now c.requires.1 c.in_ok-host.ensures.seated c.as_slice.ensures.value

pub frame_length-requires : goal.frame_length-requires
frame_length-requires c = record {
  few = batch_few c.args.plan.now c.requires.0 c.args.number c.args.site c.args.inputs.now c.args.stop c.new-entries.result
      (c.new-entries.ensures ∙ entries_here c.host_laws.ensures.recovered c.args.plan.now c.requires.0 c.args.number c.args.site c.args.inputs.now c.args.stop c.args.held c.in_ok-host.host
      c.in_ok-entries.entries.items c.as_slice.result.now c.args.disk.now c.host_of.new.disk c.args.output.now c.requires.1 c.in_ok-host.ensures.seated c.in_ok-entries.ensures.value
      c.as_slice.ensures.value)
      c.requires.1.next;
  written = batch_written c.in_ok-host.host c.new-entries.result c.in_ok-entries.entries.items c.new-entries.ensures c.in_ok-entries.ensures.asked;
}

pub run-requires : goal.run-requires
run-requires c = record {
  steps = c.requires.0;
  inputs = c.args.inputs.now;
  is = subst (λ st. IsBatchAt c.args.plan.now c.requires.0 c.args.number c.args.site c.args.inputs.now st c.in_ok-host.host c.new-entries.result c.host_of.new.disk c.count.new.self) c.in-None.is
      (batch_at c.host_laws.ensures.ends c.host_laws.ensures.recovered c.args.plan.now c.requires.0 c.args.number c.args.site c.args.inputs.now c.args.stop c.args.held c.in_ok-host.host
      c.new-entries.result c.as_slice.result.now c.frame_length.result c.args.disk.now c.host_of.new.disk c.args.output.now c.count.new.self c.requires.1 c.in_ok-host.ensures.seated
      (λ pl n k. c.new-entries.ensures ∙ c.in_ok-entries.ensures.value pl n k) c.as_slice.ensures.value c.frame_length.ensures.value
      (ap (λ v. v.items) c.count.ensures.text) (ap (λ v. v.items) c.count.ensures.sent) (ap (λ v. v.items) c.count.ensures.commits) c.count.ensures.refusals c.count.ensures.volume);
}

pub run_stopped-requires : goal.run_stopped-requires
run_stopped-requires c = record {
  steps = c.requires.0;
  inputs = c.args.inputs.now;
  is = subst (λ st. IsBatchAt c.args.plan.now c.requires.0 c.args.number c.args.site c.args.inputs.now st c.in_ok-host.host c.new-entries.result c.host_of.new.disk c.count.new.self) c.in-Some.is
      (batch_at c.host_laws.ensures.ends c.host_laws.ensures.recovered c.args.plan.now c.requires.0 c.args.number c.args.site c.args.inputs.now c.args.stop c.args.held c.in_ok-host.host
      c.new-entries.result c.as_slice.result.now c.frame_length.result c.args.disk.now c.host_of.new.disk c.args.output.now c.count.new.self c.requires.1 c.in_ok-host.ensures.seated
      (λ pl n k. c.new-entries.ensures ∙ c.in_ok-entries.ensures.value pl n k) c.as_slice.ensures.value c.frame_length.ensures.value
      (ap (λ v. v.items) c.count.ensures.text) (ap (λ v. v.items) c.count.ensures.sent) (ap (λ v. v.items) c.count.ensures.commits) c.count.ensures.refusals c.count.ensures.volume);
}

pub returns-in_err-host-clause-between : goal.returns-in_err-host-clause-between
returns-in_err-host-clause-between c =
    on_err ((steps : List Step) → IsBegun c.args.plan.now steps c.args.number (Batch c.args.site c.args.inputs.now c.args.stop) c.args.held c.args.disk.now c.args.output.now
    → IsBetween c.args.plan.now (progress c.args.plan.now steps) (Batch c.args.site c.args.inputs.now c.args.stop) c.host_of.new.disk)
    c.from_residual.result
    (λ steps b. begun_holds c.args.plan.now steps c.args.number (Batch c.args.site c.args.inputs.now c.args.stop) c.args.site c.args.held c.args.disk.now c.host_of.new.disk c.args.output.now b refl
    c.in_err-host.ensures.kept)

pub returns-in_err-entries-clause-between : goal.returns-in_err-entries-clause-between
returns-in_err-entries-clause-between c =
    on_err ((steps : List Step) → IsBegun c.args.plan.now steps c.args.number (Batch c.args.site c.args.inputs.now c.args.stop) c.args.held c.args.disk.now c.args.output.now
    → IsBetween c.args.plan.now (progress c.args.plan.now steps) (Batch c.args.site c.args.inputs.now c.args.stop) c.host_of.new.disk)
    c.from_residual-in_err-entries.result
    (λ steps b. begun_holds c.args.plan.now steps c.args.number (Batch c.args.site c.args.inputs.now c.args.stop) c.args.site c.args.held c.args.disk.now c.host_of.new.disk c.args.output.now b refl
    (λ batches k. seated_holds c.args.plan.now c.args.site batches c.in_ok-host.host c.host_of.new.disk (c.in_ok-host.ensures.seated batches k)))

pub returns-in-None-clause-placed : goal.returns-in-None-clause-placed
returns-in-None-clause-placed c =
    begun_placed c.args.plan.now c.args.number c.args.site c.args.inputs.now c.args.stop None c.args.held c.in_ok-host.host c.new-entries.result c.args.disk.now c.host_of.new.disk c.run.new.disk
    c.args.output.now c.count.new.self c.run.new.output c.run.result c.in-None.is
    (λ steps b. batch_at c.host_laws.ensures.ends c.host_laws.ensures.recovered c.args.plan.now steps c.args.number c.args.site c.args.inputs.now c.args.stop c.args.held c.in_ok-host.host
    c.new-entries.result c.as_slice.result.now c.frame_length.result c.args.disk.now c.host_of.new.disk c.args.output.now c.count.new.self b c.in_ok-host.ensures.seated
    (λ pl n k. c.new-entries.ensures ∙ c.in_ok-entries.ensures.value pl n k) c.as_slice.ensures.value c.frame_length.ensures.value
    (ap (λ v. v.items) c.count.ensures.text) (ap (λ v. v.items) c.count.ensures.sent) (ap (λ v. v.items) c.count.ensures.commits) c.count.ensures.refusals c.count.ensures.volume)
    c.run.ensures.placed

pub returns-in-None-clause-between : goal.returns-in-None-clause-between
returns-in-None-clause-between c =
    begun_between c.args.plan.now c.args.number c.args.site c.args.inputs.now c.args.stop None c.args.held c.in_ok-host.host c.new-entries.result c.args.disk.now c.host_of.new.disk c.run.new.disk
    c.args.output.now c.count.new.self c.run.result c.in-None.is
    (λ steps b. batch_at c.host_laws.ensures.ends c.host_laws.ensures.recovered c.args.plan.now steps c.args.number c.args.site c.args.inputs.now c.args.stop c.args.held c.in_ok-host.host
    c.new-entries.result c.as_slice.result.now c.frame_length.result c.args.disk.now c.host_of.new.disk c.args.output.now c.count.new.self b c.in_ok-host.ensures.seated
    (λ pl n k. c.new-entries.ensures ∙ c.in_ok-entries.ensures.value pl n k) c.as_slice.ensures.value c.frame_length.ensures.value
    (ap (λ v. v.items) c.count.ensures.text) (ap (λ v. v.items) c.count.ensures.sent) (ap (λ v. v.items) c.count.ensures.commits) c.count.ensures.refusals c.count.ensures.volume)
    c.run.ensures.between

pub returns-in-Some-clause-placed : goal.returns-in-Some-clause-placed
returns-in-Some-clause-placed c =
    begun_placed c.args.plan.now c.args.number c.args.site c.args.inputs.now c.args.stop (Some c.in-Some.stop) c.args.held c.in_ok-host.host c.new-entries.result c.args.disk.now c.host_of.new.disk c.run_stopped.new.disk
    c.args.output.now c.count.new.self c.run_stopped.new.output c.run_stopped.result c.in-Some.is
    (λ steps b. batch_at c.host_laws.ensures.ends c.host_laws.ensures.recovered c.args.plan.now steps c.args.number c.args.site c.args.inputs.now c.args.stop c.args.held c.in_ok-host.host
    c.new-entries.result c.as_slice.result.now c.frame_length.result c.args.disk.now c.host_of.new.disk c.args.output.now c.count.new.self b c.in_ok-host.ensures.seated
    (λ pl n k. c.new-entries.ensures ∙ c.in_ok-entries.ensures.value pl n k) c.as_slice.ensures.value c.frame_length.ensures.value
    (ap (λ v. v.items) c.count.ensures.text) (ap (λ v. v.items) c.count.ensures.sent) (ap (λ v. v.items) c.count.ensures.commits) c.count.ensures.refusals c.count.ensures.volume)
    c.run_stopped.ensures.placed

pub returns-in-Some-clause-between : goal.returns-in-Some-clause-between
returns-in-Some-clause-between c =
    begun_between c.args.plan.now c.args.number c.args.site c.args.inputs.now c.args.stop (Some c.in-Some.stop) c.args.held c.in_ok-host.host c.new-entries.result c.args.disk.now c.host_of.new.disk c.run_stopped.new.disk
    c.args.output.now c.count.new.self c.run_stopped.result c.in-Some.is
    (λ steps b. batch_at c.host_laws.ensures.ends c.host_laws.ensures.recovered c.args.plan.now steps c.args.number c.args.site c.args.inputs.now c.args.stop c.args.held c.in_ok-host.host
    c.new-entries.result c.as_slice.result.now c.frame_length.result c.args.disk.now c.host_of.new.disk c.args.output.now c.count.new.self b c.in_ok-host.ensures.seated
    (λ pl n k. c.new-entries.ensures ∙ c.in_ok-entries.ensures.value pl n k) c.as_slice.ensures.value c.frame_length.ensures.value
    (ap (λ v. v.items) c.count.ensures.text) (ap (λ v. v.items) c.count.ensures.sent) (ap (λ v. v.items) c.count.ensures.commits) c.count.ensures.refusals c.count.ensures.volume)
    c.run_stopped.ensures.between
