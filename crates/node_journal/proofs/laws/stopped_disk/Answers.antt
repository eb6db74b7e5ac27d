use Rattle.node_journal.proofs.Stops.{stopped_disk}
use Rattle.node_journal.proofs.laws.stopped_disk.Goals as goal

pub returns : goal.returns
returns c = stopped_disk
