use Rattle.protocol_laws.proofs.LaterWorlds.{each_time_is_kept}
use Rattle.protocol_laws.proofs.laws.each_time_is_kept.Goals as goal

pub returns : goal.returns
returns c = each_time_is_kept
