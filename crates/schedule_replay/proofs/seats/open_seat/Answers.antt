use Rattle.std.proofs.Common.{◌≡◌, refl, ap, subst, ◌∙◌, arith}
use Rattle.helios_model.specs.Plans.{PlanData}
use Rattle.disk_store.specs.Memory.{MemState}
use Rattle.schedule_replay.specs.Seats.{IsHolding}
use Rattle.schedule_replay.proofs.Quiet.{roomier_given, stays_quiet}
use Rattle.schedule_replay.proofs.Seating.{opening_crashed, opening_faults}
use Rattle.schedule_replay.proofs.seats.open_seat.Goals as goal

pub only_memory-requires : goal.only_memory-requires
only_memory-requires c =
    let some = c.requires.holding in
    let roomy = c.in_ok-make_room.ensures.ok in
    let copied : c.in_ok-plan.plan ≡ c.args.plan.now = c.in_ok-plan.ensures in
    let holds = roomier_given c.args.plan.now c.in_ok-plan.plan c.args.site some.0 40 c.args.disk.now c.make_room.new.self copied roomy some.1 in
    opening_faults c.an_own_journal_is_opened.ensures c.in_ok-plan.plan c.args.site some.0 c.in-Err.fault c.make_room.new.self holds (omega (arith, ap (λ (m : MemState). m.room) roomy))
    c.in-Err.ensures.ends c.in-Err.ensures.failed

pub returns-in-Ok-clause-seated : goal.returns-in-Ok-clause-seated
returns-in-Ok-clause-seated c = λ batches held.
    let copied : c.in_ok-plan.plan ≡ c.args.plan.now = c.in_ok-plan.ensures in
    let holds = roomier_given c.args.plan.now c.in_ok-plan.plan c.args.site batches 40 c.args.disk.now c.make_room.new.self copied c.in_ok-make_room.ensures.ok held in
    record {
      of_plan = c.in-Ok.ensures.plan ∙ copied;
      at_site = c.in-Ok.ensures.site;
      limited = c.in-Ok.ensures.limit;
      on = (c.in-Ok.ensures.stands batches holds.holds).1 c.open.new.disk.disk refl;
      quiet = stays_quiet c.make_room.new.self c.open.new.disk holds.quiet c.in-Ok.ensures.quiet;
    }

pub returns-in-Err-clause-kept : goal.returns-in-Err-clause-kept
returns-in-Err-clause-kept c = λ batches held.
    let copied : c.in_ok-plan.plan ≡ c.args.plan.now = c.in_ok-plan.ensures in
    let holds = roomier_given c.args.plan.now c.in_ok-plan.plan c.args.site batches 40 c.args.disk.now c.make_room.new.self copied c.in_ok-make_room.ensures.ok held in
    let kept = opening_crashed c.in_ok-plan.plan c.args.site batches c.make_room.new.self c.open.new.disk c.crash.new.self holds.holds holds.at_rest
    (stays_quiet c.make_room.new.self c.open.new.disk holds.quiet c.in-Err.ensures.quiet).unlisted c.in-Err.ensures.any_moment_at_rest c.crash.ensures.left c.crash.ensures.image in
    subst (λ (p : PlanData). IsHolding p c.args.site batches c.crash.new.self) copied kept
