use Rattle.std.proofs.Common.{refl, sym, subst, ◌∙◌, inl}
use Rattle.schedule_replay.specs.Seats.{IsHolding}
use Rattle.schedule_replay.proofs.Quiet.{roomier_seated, stays_quiet}
use Rattle.schedule_replay.proofs.Seating.{batch_crashed, on_err, replies_counted, seated_holds}
use Rattle.schedule_replay.proofs.seats.run_batch.Goals as goal

pub returns-in_err-make_room-clause-kept : goal.returns-in_err-make_room-clause-kept
returns-in_err-make_room-clause-kept c = on_err _ c.from_residual.result (λ batches seated.
    let holds = seated_holds c.args.host.core.plan c.args.host.core.site batches c.args.host c.args.disk.now seated in
    inl (subst (IsHolding c.args.host.core.plan c.args.host.core.site batches) (sym c.in_err-make_room.ensures.err) holds))

pub returns-in-Ok-clause-seated : goal.returns-in-Ok-clause-seated
returns-in-Ok-clause-seated c = λ batches seated.
    let roomy = roomier_seated c.args.host.core.plan c.args.host.core.site batches c.args.host c.frame_length.result c.args.disk.now c.make_room.new.self c.in_ok-make_room.ensures.ok seated in
    record {
      of_plan = c.in-Ok.ensures.plan;
      at_site = c.in-Ok.ensures.site;
      limited = c.in-Ok.ensures.limit ∙ seated.limited;
      on = c.in-Ok.ensures.stands batches roomy.on c.batch.new.disk.disk refl;
      quiet = stays_quiet c.make_room.new.self c.batch.new.disk roomy.quiet c.in-Ok.ensures.quiet;
    }

pub returns-in-Ok-clause-count : goal.returns-in-Ok-clause-count
returns-in-Ok-clause-count c =
    let some = c.requires.seated in
    replies_counted c.args.host some.0 c.args.disk.now.disk c.args.entries c.in-Ok.batched.host.core c.in-Ok.batched.replies c.in-Ok.batched.commits some.1.on c.in-Ok.ensures.answers

pub returns-in-Err-clause-kept : goal.returns-in-Err-clause-kept
returns-in-Err-clause-kept c = λ batches seated.
    let plan = c.args.host.core.plan in
    let site = c.args.host.core.site in
    let roomy = roomier_seated plan site batches c.args.host c.frame_length.result c.args.disk.now c.make_room.new.self c.in_ok-make_room.ensures.ok seated in
    batch_crashed plan site batches c.args.entries c.batch.new.disk c.crash.new.self (stays_quiet c.make_room.new.self c.batch.new.disk roomy.quiet c.in-Err.ensures.quiet).unlisted
    (c.in-Err.ensures.any_moment batches roomy.on) c.crash.ensures.left c.crash.ensures.image
