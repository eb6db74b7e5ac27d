use Rattle.protocol_laws.proofs.Placed.{each_node_is_placed}
use Rattle.protocol_laws.proofs.laws.each_node_is_placed.Goals as goal

pub returns : goal.returns
returns c = each_node_is_placed
