use Rattle.node_journal.proofs.Images.{one_gate}
use Rattle.node_journal.proofs.laws.one_gate.Goals as goal

pub returns : goal.returns
returns c = one_gate
