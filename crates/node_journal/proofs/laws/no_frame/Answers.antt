use Rattle.node_journal.proofs.Lists.{no_frame}
use Rattle.node_journal.proofs.laws.no_frame.Goals as goal

pub returns : goal.returns
returns c = no_frame
