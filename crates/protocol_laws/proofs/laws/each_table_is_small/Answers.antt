use Rattle.protocol_laws.proofs.AskedNodes.{each_table_is_small}
use Rattle.protocol_laws.proofs.laws.each_table_is_small.Goals as goal

pub returns : goal.returns
returns c = each_table_is_small
