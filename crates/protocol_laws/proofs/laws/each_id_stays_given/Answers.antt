use Rattle.protocol_laws.proofs.LaterWorlds.{each_id_stays_given}
use Rattle.protocol_laws.proofs.laws.each_id_stays_given.Goals as goal

pub returns : goal.returns
returns c = each_id_stays_given
