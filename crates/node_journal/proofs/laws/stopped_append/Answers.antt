use Rattle.node_journal.proofs.Stops.{stopped_stands}
use Rattle.node_journal.proofs.laws.stopped_append.Goals as goal

pub returns : goal.returns
returns c = stopped_stands
