use Rattle.node_journal.proofs.Lists.{one_frame}
use Rattle.node_journal.proofs.laws.one_frame.Goals as goal

pub returns : goal.returns
returns c = one_frame
