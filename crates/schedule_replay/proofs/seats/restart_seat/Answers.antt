use Rattle.std.proofs.Common.{List}
use Rattle.std.proofs.lemmas.Result.{IfOk-weaker, on_err_weaker}
use Rattle.helios_model.specs.declared.entries.Entry.{Entry}
use Rattle.node_host.specs.declared.host.Opened.{Opened}
use Rattle.schedule_replay.specs.Seats.{IsHolding, IsSeated}
use Rattle.schedule_replay.proofs.seats.restart_seat.Goals as goal

pub open_seat-requires-clause-holding : goal.open_seat-requires-clause-holding
open_seat-requires-clause-holding c = let some = c.requires.holding in (some.0, c.stop_opening.ensures.kept some.0 some.1)

pub returns-clause-kept : goal.returns-clause-kept
returns-clause-kept c = on_err_weaker c.open_seat.result (λ f batches held. f batches (c.stop_opening.ensures.kept batches held)) c.open_seat.ensures.kept

pub returns-clause-seated : goal.returns-clause-seated
returns-clause-seated c =
    IfOk-weaker c.open_seat.result
    (λ (o : Opened). (batches : List (List Entry)) → IsHolding c.args.plan.now c.args.site batches c.stop_opening.new.disk → IsSeated c.args.plan.now c.args.site batches o.host c.open_seat.new.disk)
    (λ (o : Opened). (batches : List (List Entry)) → IsHolding c.args.plan.now c.args.site batches c.args.disk.now → IsSeated c.args.plan.now c.args.site batches o.host c.open_seat.new.disk)
    (λ o f batches held. f batches (c.stop_opening.ensures.kept batches held)) c.open_seat.ensures.seated
