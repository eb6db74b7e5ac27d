use Rattle.protocol_laws.proofs.ToldLaws.{each_told_stands}
use Rattle.protocol_laws.proofs.laws.each_told_stands.Goals as goal

pub returns : goal.returns
returns c = each_told_stands
