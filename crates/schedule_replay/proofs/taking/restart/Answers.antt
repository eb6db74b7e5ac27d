use Rattle.std.proofs.Common.{refl, List}
use Rattle.helios_model.specs.World.{journal_of}
use Rattle.schedule_text.specs.declared.steps.Step.{Step}
use Rattle.schedule_text.specs.declared.steps.Step.TheVariants.{Restart}
use Rattle.schedule_replay.specs.Progress.{progress}
use Rattle.schedule_replay.specs.Standing.{IsBegun, IsBetween}
use Rattle.schedule_replay.proofs.Seated.{held_holds, on_err, seat_held, seated_holds}
use Rattle.schedule_replay.proofs.BatchBegun.{begun_holds}
use Rattle.schedule_replay.proofs.StepBegun.{restart_first, restart_placed}
use Rattle.schedule_replay.proofs.taking.restart.Goals as goal

pub restart_seat-requires : goal.restart_seat-requires
restart_seat-requires c = record {
  accepted = c.requires.1.next.accepted;
  here = c.requires.1.next.planned.here;
  holding = (
    journal_of (progress c.args.plan.now c.requires.0).world c.args.site,
    held_holds c.args.plan.now c.args.site (journal_of (progress c.args.plan.now c.requires.0).world c.args.site) c.args.held c.args.disk.now
        (seat_held c.args.plan.now (progress c.args.plan.now c.requires.0) c.args.site c.args.held c.args.disk.now c.requires.1.seat),
  );
  first = restart_first c.args.plan.now c.args.site c.args.stop c.requires.1.next.planned;
}

pub returns-in_err-host-clause-between : goal.returns-in_err-host-clause-between
returns-in_err-host-clause-between c =
    on_err ((steps : List Step) → IsBegun c.args.plan.now steps c.args.number (Restart c.args.site c.args.stop) c.args.held c.args.disk.now c.args.output.now
    → IsBetween c.args.plan.now (progress c.args.plan.now steps) (Restart c.args.site c.args.stop) c.restart_seat.new.disk)
    c.from_residual.result
    (λ steps b. begun_holds c.args.plan.now steps c.args.number (Restart c.args.site c.args.stop) c.args.site c.args.held c.args.disk.now c.restart_seat.new.disk c.args.output.now b refl
    (λ batches k. c.in_err-host.ensures.kept batches (held_holds c.args.plan.now c.args.site batches c.args.held c.args.disk.now k)))

pub returns-in_err-tell_restart-clause-between : goal.returns-in_err-tell_restart-clause-between
returns-in_err-tell_restart-clause-between c =
    on_err ((steps : List Step) → IsBegun c.args.plan.now steps c.args.number (Restart c.args.site c.args.stop) c.args.held c.args.disk.now c.args.output.now
    → IsBetween c.args.plan.now (progress c.args.plan.now steps) (Restart c.args.site c.args.stop) c.restart_seat.new.disk)
    c.from_residual-in_err-tell_restart.result
    (λ steps b. begun_holds c.args.plan.now steps c.args.number (Restart c.args.site c.args.stop) c.args.site c.args.held c.args.disk.now c.restart_seat.new.disk c.args.output.now b refl
    (λ batches k. seated_holds c.args.plan.now c.args.site batches c.in_ok-host.field-0.host c.restart_seat.new.disk
    (c.in_ok-host.ensures.seated batches (held_holds c.args.plan.now c.args.site batches c.args.held c.args.disk.now k))))

pub returns-clause-placed : goal.returns-clause-placed
returns-clause-placed c = λ steps b.
    restart_placed c.args.plan.now steps c.args.number c.args.site c.args.stop c.args.held c.in_ok-host.field-0.host c.in_ok-host.field-0.last c.args.disk.now c.restart_seat.new.disk c.args.output.now c.tell_restart.new.self b
    c.in_ok-host.ensures.seated c.in_ok-tell_restart.ensures
