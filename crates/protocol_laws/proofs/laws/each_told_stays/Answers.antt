use Rattle.protocol_laws.proofs.Safe.{each_told_stays}
use Rattle.protocol_laws.proofs.laws.each_told_stays.Goals as goal

pub returns : goal.returns
returns c = each_told_stays
