use Rattle.protocol_laws.proofs.Safe.{each_world_is_safe}
use Rattle.protocol_laws.proofs.laws.each_world_is_safe.Goals as goal

pub returns : goal.returns
returns c = each_world_is_safe
