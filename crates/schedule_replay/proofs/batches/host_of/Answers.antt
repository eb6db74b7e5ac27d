use Rattle.std.proofs.Common.{List}
use Rattle.helios_model.specs.declared.entries.Entry.{Entry}
use Rattle.schedule_replay.specs.Seats.{IsHolding}
use Rattle.schedule_replay.specs.Standing.{IsHeld}
use Rattle.schedule_replay.proofs.Seated.{held_holds, on_err}
use Rattle.schedule_replay.proofs.batches.host_of.Goals as goal

pub returns-in_err-host-in-None-clause-kept : goal.returns-in_err-host-in-None-clause-kept
returns-in_err-host-in-None-clause-kept c =
    on_err ((batches : List (List Entry)) → IsHeld c.args.plan.now c.args.site batches c.args.held c.args.disk.now → IsHolding c.args.plan.now c.args.site batches c.open_seat.new.disk)
    c.from_residual.result
    (λ batches h. c.in_err-host-in-None.ensures.kept batches (held_holds c.args.plan.now c.args.site batches c.args.held c.args.disk.now h))

pub returns-in_ok-host-in-None-clause-seated : goal.returns-in_ok-host-in-None-clause-seated
returns-in_ok-host-in-None-clause-seated c = λ batches h.
    c.in_ok-host-in-None.ensures.seated batches (held_holds c.args.plan.now c.args.site batches c.args.held c.args.disk.now h)
