use Rattle.std.proofs.Common.{◌≡◌, option_map}
use Rattle.disk_store.specs.Disk.{after_sync}
use Rattle.node_journal.proofs.Writing.{by_answer, write_synced}
use Rattle.node_journal.proofs.device.write_durably.Goals as goal

pub returns-clause-moments : goal.returns-clause-moments
returns-clause-moments g c =
    write_synced c.args.at c.args.bytes.now (g.D.Disk.past c.args.disk.now) (g.D.Disk.past c.write_at.new.self) (g.D.Disk.past c.sync.new.self)
    (g.D.Disk.state c.args.disk.now) (g.D.Disk.state c.write_at.new.self) (g.D.Disk.state c.sync.new.self)
    c.requires c.in_ok-write_at.ensures.written c.write_at.ensures.time
    (by_answer c.sync.result (g.D.Disk.state c.sync.new.self ≡ option_map after_sync (g.D.Disk.state c.write_at.new.self))
    (g.D.Disk.state c.sync.new.self ≡ g.D.Disk.state c.write_at.new.self) c.sync.ensures.synced c.sync.ensures.failed)
    c.sync.ensures.time
