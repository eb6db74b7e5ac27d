use Rattle.protocol_laws.proofs.WorldLaws.{each_id_is_given_once}
use Rattle.protocol_laws.proofs.laws.each_id_is_given_once.Goals as goal

pub returns : goal.returns
returns c = each_id_is_given_once
