use Rattle.node_host.proofs.Nodes.{recovered_is_node}
use Rattle.node_host.proofs.laws.what_is_recovered_is_the_node.Goals as goal

pub returns : goal.returns
returns c = recovered_is_node
