use Rattle.std.proofs.Common.{inl, subst, sym, IsErrOf}
use Rattle.node_host.specs.declared.fault.HostFault.TheVariants.{DiskFailed}
use Rattle.schedule_replay.specs.Seats.{IsHolding}
use Rattle.schedule_replay.proofs.Seating.{on_err, seated_holds}
use Rattle.schedule_replay.proofs.Stopping.{not_sealed, scripted_on, seal_stopped, stop_between}
use Rattle.schedule_replay.proofs.seats.stop_seal.Goals as goal

pub returns-in_err-make_room-clause-kept : goal.returns-in_err-make_room-clause-kept
returns-in_err-make_room-clause-kept c = on_err _ c.from_residual.result (λ batches seated.
    let holds = seated_holds c.args.host.core.plan c.args.host.core.site batches c.args.host c.args.disk.now seated in
    inl (subst (IsHolding c.args.host.core.plan c.args.host.core.site batches) (sym c.in_err-make_room.ensures.err) holds))

pub unreachable-requires : goal.unreachable-requires
unreachable-requires c =
    let some = c.requires.seated in
    not_sealed c.args.host some.0 c.args.entries c.frame_length.result c.args.disk.now c.make_room.new.self c.script.new.self c.args.stop.call c.args.stop.keep some.1 c.requires.journaled c.frame_length.ensures.value
    c.in_ok-make_room.ensures.ok c.script.ensures c.in-Ok.field-0 c.requires.first c.requires.last c.requires.low c.frame_length.ensures.most c.in-Ok.ensures.answer

pub returns-in-Err-DiskFailed-clause-left : goal.returns-in-Err-DiskFailed-clause-left
returns-in-Err-DiskFailed-clause-left c = λ batches seated.
    let fault : IsErrOf c.batch-sealed.result DiskFailed = cc (c.in-Err-DiskFailed.is, c.in-Err-DiskFailed.field-0-is) in
    seal_stopped c.args.host batches c.args.entries c.frame_length.result c.args.disk.now c.make_room.new.self c.script.new.self c.args.stop.call c.args.stop.keep seated c.requires.journaled c.frame_length.ensures.value
    c.in_ok-make_room.ensures.ok c.script.ensures c.a_stopped_batch.ensures c.batch-sealed.new.disk c.crash.new.self c.batch-sealed.result c.requires.first c.requires.last c.requires.few c.requires.each fault c.batch-sealed.ensures.readings
    c.batch-sealed.ensures.failed c.batch-sealed.ensures.keeps c.batch-sealed.ensures.room c.crash.ensures.left

pub returns-in-Err : goal.returns-in-Err
returns-in-Err c = record {
  left = tt;
  kept = λ batches seated.
      let on = scripted_on c.args.host batches c.args.entries c.frame_length.result c.args.disk.now c.make_room.new.self c.script.new.self c.args.stop.call c.args.stop.keep seated c.requires.journaled c.frame_length.ensures.value
      c.in_ok-make_room.ensures.ok c.script.ensures in
      stop_between c.args.host batches c.args.entries c.frame_length.result c.args.disk.now c.make_room.new.self c.script.new.self c.args.stop.call c.args.stop.keep seated c.requires.journaled c.frame_length.ensures.value
      c.in_ok-make_room.ensures.ok c.script.ensures c.batch-sealed.new.disk c.crash.new.self c.batch-sealed.ensures.room (c.batch-sealed.ensures.any_moment batches on) c.crash.ensures.left c.crash.ensures.image;
}
