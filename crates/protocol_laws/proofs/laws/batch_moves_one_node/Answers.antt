use Rattle.protocol_laws.proofs.Placed.{batch_moves_one_node}
use Rattle.protocol_laws.proofs.laws.batch_moves_one_node.Goals as goal

pub returns : goal.returns
returns c = batch_moves_one_node
