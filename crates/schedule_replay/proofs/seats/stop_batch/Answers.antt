use Rattle.std.proofs.Common.{List, if◌then◌else◌}
use Rattle.helios_model.specs.declared.entries.Entry.{Entry}
use Rattle.helios_model.specs.World.{grown, journaled}
use Rattle.node_journal.specs.Appending.{is_kept}
use Rattle.schedule_replay.specs.Seats.{IsHolding}
use Rattle.schedule_replay.proofs.Stopping.{opened_stopped, same_seat, unopened_stopped}
use Rattle.schedule_replay.proofs.seats.stop_batch.Goals as goal

pub open_seat-requires-clause-holding : goal.open_seat-requires-clause-holding
open_seat-requires-clause-holding c =
    let some = c.requires.seated in
    let list : List (List Entry) = if is_kept c.args.stop.call c.args.stop.keep then grown some.0 (journaled c.args.entries) else some.0 in (
      list,
      same_seat (λ p s. IsHolding p s list c.stop_seal.new.disk) c.args.host.core.plan c.args.plan.now c.args.host.core.site c.site-site.result c.requires.plan c.site-site.ensures
          (c.in_ok-stop_seal.ensures.left some.0 some.1),
    )

pub returns-clause-seated : goal.returns-clause-seated
returns-clause-seated c = opened_stopped c.args.host.core.plan c.args.plan.now c.args.host.core.site c.site-site.result c.args.host
    (λ batches. if is_kept c.args.stop.call c.args.stop.keep then grown batches (journaled c.args.entries) else batches) c.args.disk.now c.stop_seal.new.disk c.open_seat.new.disk c.open_seat.result
    c.requires.plan c.site-site.ensures c.in_ok-stop_seal.ensures.left c.open_seat.ensures.seated

pub returns-clause-kept : goal.returns-clause-kept
returns-clause-kept c = unopened_stopped c.args.host.core.plan c.args.plan.now c.args.host.core.site c.site-site.result c.args.host c.args.entries (is_kept c.args.stop.call c.args.stop.keep) c.args.disk.now
    c.stop_seal.new.disk c.open_seat.new.disk c.open_seat.result c.requires.plan c.site-site.ensures c.in_ok-stop_seal.ensures.left c.open_seat.ensures.kept
