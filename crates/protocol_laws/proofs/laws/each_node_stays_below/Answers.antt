use Rattle.protocol_laws.proofs.Ceilings.{each_node_stays_below}
use Rattle.protocol_laws.proofs.laws.each_node_stays_below.Goals as goal

pub returns : goal.returns
returns c = each_node_stays_below
