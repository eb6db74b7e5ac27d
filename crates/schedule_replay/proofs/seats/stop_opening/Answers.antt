use Rattle.std.proofs.Common.{◌≡◌, subst}
use Rattle.helios_model.specs.Plans.{PlanData}
use Rattle.schedule_replay.specs.Seats.{IsHolding}
use Rattle.schedule_replay.proofs.Quiet.{roomier_given}
use Rattle.schedule_replay.proofs.Stopping.{opening_stopped}
use Rattle.schedule_replay.proofs.seats.stop_opening.Goals as goal

pub returns : goal.returns
returns c = record {
  kept = λ batches held.
      let copied : c.in_ok-plan.plan ≡ c.args.plan.now = c.in_ok-plan.ensures in
      let holds = roomier_given c.args.plan.now c.in_ok-plan.plan c.args.site batches 40 c.args.disk.now c.make_room.new.self copied c.in_ok-make_room.ensures.ok held in
      let kept = opening_stopped c.in_ok-plan.plan c.args.site batches c.in-Some.stop.call c.in-Some.stop.keep c.make_room.new.self c.script.new.self c.open-opening.new.disk c.crash.new.self holds c.script.ensures
      c.open-opening.ensures.room c.open-opening.ensures.any_moment_at_rest c.crash.ensures.left c.crash.ensures.image in
      subst (λ (p : PlanData). IsHolding p c.args.site batches c.crash.new.self) copied kept;
}
