use Rattle.protocol_laws.proofs.WorldGrowth.{each_world_grows}
use Rattle.protocol_laws.proofs.laws.each_world_grows.Goals as goal

pub returns : goal.returns
returns c = each_world_grows
