-- What the journal gives is the end of the dump.
use Rattle.helios_top.specs.Outside.{DiskSeen, disk_seen}
use Rattle.helios_top.specs.Ending.{end_of}
use Rattle.helios_top.proofs.Dumps.{is_dumped}
use Rattle.helios_top.proofs.dump.dump.Goals as goal

pub returns-clause-disk : goal.returns-clause-disk
returns-clause-disk g c =
    is_dumped c.args.plan c.args.site (disk_seen g.D.Disk.state g.D.Disk.past g.D.Disk.outlook g.D.Disk.keeps g.D.Disk.faults c.args.disk.now)
    (disk_seen g.D.Disk.state g.D.Disk.past g.D.Disk.outlook g.D.Disk.keeps g.D.Disk.faults c.kept_records-kept.new.disk)
    c.kept_records-kept.result (end_of c.print_kept.result) c.requires.accepted c.requires.here (record {
      ends = c.kept_records-kept.ensures.ends;
      decided = c.kept_records-kept.ensures.decided;
      node = c.kept_records-kept.ensures.node;
      not_full = c.kept_records-kept.ensures.not_full;
      any_moment = c.kept_records-kept.ensures.any_moment;
      any_moment_at_rest = c.kept_records-kept.ensures.any_moment_at_rest;
      left_as = c.kept_records-kept.ensures.left;
      unwritten = c.kept_records-kept.ensures.unwritten;
      image = c.kept_records-kept.ensures.image;
      told = c.kept_records-kept.ensures.told;
      room = c.kept_records-kept.ensures.room;
      keeps = c.kept_records-kept.ensures.keeps;
      later = c.kept_records-kept.ensures.later;
      steady = c.kept_records-kept.ensures.steady;
      cause = c.kept_records-kept.ensures.cause;
      quiet = c.kept_records-kept.ensures.quiet;
      failed = c.kept_records-kept.ensures.failed;
    }) c.print_kept.ensures.ends
