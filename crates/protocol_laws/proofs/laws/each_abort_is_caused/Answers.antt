use Rattle.protocol_laws.proofs.WorldLaws.{each_abort_is_caused}
use Rattle.protocol_laws.proofs.laws.each_abort_is_caused.Goals as goal

pub returns : goal.returns
returns c = each_abort_is_caused
