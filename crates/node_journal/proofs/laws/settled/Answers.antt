use Rattle.node_journal.proofs.Images.{settled}
use Rattle.node_journal.proofs.laws.settled.Goals as goal

pub returns : goal.returns
returns c = settled
