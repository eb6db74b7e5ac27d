use Rattle.protocol_laws.proofs.WorldLaws.{each_world_is_ordered}
use Rattle.protocol_laws.proofs.laws.each_world_is_ordered.Goals as goal

pub returns : goal.returns
returns c = each_world_is_ordered
