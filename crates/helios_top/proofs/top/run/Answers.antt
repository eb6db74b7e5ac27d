-- The end that the input came to, and what was written of it, are a run.
use Rattle.std.proofs.Common.{ap}
use Rattle.helios_top.specs.Outside.{DiskSeen, disk_seen}
use Rattle.helios_top.specs.Words.{command_of, texts}
use Rattle.helios_top.proofs.Disks.{disk_later, disk_told}
use Rattle.helios_top.proofs.Runs.{is_run}
use Rattle.helios_top.proofs.top.run.Goals as goal

pub returns-clause-run : goal.returns-clause-run
returns-clause-run g c =
    let held : DiskSeen = disk_seen g.D.Disk.state g.D.Disk.past g.D.Disk.outlook g.D.Disk.keeps g.D.Disk.faults c.args.disk.now in
    let left : DiskSeen = disk_seen g.D.Disk.state g.D.Disk.past g.D.Disk.outlook g.D.Disk.keeps g.D.Disk.faults c.ending_of-ending.new.disk in
    is_run (texts c.args.words.now.items)
    (record { input = g.S.Source.seen c.args.input.now; output = g.K.Sink.seen c.args.output.now; disk = held; bench = c.args.bench.now })
    (record { input = g.S.Source.seen c.ending_of-ending.new.input; output = g.K.Sink.seen c.write_ending-status.new.output; disk = left; bench = c.ending_of-ending.new.bench })
    c.ending_of-ending.result c.write_ending-status.result c.ending_of-ending.ensures.ends c.ending_of-ending.ensures.steady
    c.write_ending-status.ensures.came c.write_ending-status.ensures.steady (record {
      tells_input = c.ending_of-ending.ensures.tells;
      later_input = c.ending_of-ending.ensures.later;
      most_input = c.ending_of-ending.ensures.most;
      tells_output = c.write_ending-status.ensures.tells;
      later_output = c.write_ending-status.ensures.later;
      tells_disk = disk_told (command_of (texts c.args.words.now.items)) (g.S.Source.seen c.args.input.now) (g.S.Source.seen c.ending_of-ending.new.input) held left
          c.ending_of-ending.result c.ending_of-ending.ensures.disk;
      later_disk = disk_later (command_of (texts c.args.words.now.items)) (g.S.Source.seen c.args.input.now) (g.S.Source.seen c.ending_of-ending.new.input) held left
          c.ending_of-ending.result c.ending_of-ending.ensures.disk;
    }) c.ending_of-ending.ensures.disk c.ending_of-ending.ensures.leaves (λ left. ap g.S.Source.seen (c.ending_of-ending.ensures.unread left))
