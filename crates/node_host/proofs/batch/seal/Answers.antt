use Rattle.helios_model.specs.World.{journaled}
use Rattle.node_host.proofs.Sealing.{idle_moments}
use Rattle.node_host.proofs.batch.seal.Goals as goal

pub returns-then-journaled_count-eq0-clause-any_moment : goal.returns-then-journaled_count-eq0-clause-any_moment
returns-then-journaled_count-eq0-clause-any_moment g c =
    idle_moments c.args.journal.gate (journaled c.args.entries.now) (g.D.Disk.past c.args.disk.now) (g.D.Disk.state c.args.disk.now) c.requires.ready
