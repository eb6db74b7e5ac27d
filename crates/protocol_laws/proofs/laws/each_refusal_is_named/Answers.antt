use Rattle.protocol_laws.proofs.ToldLaws.{each_refusal_is_named}
use Rattle.protocol_laws.proofs.laws.each_refusal_is_named.Goals as goal

pub returns : goal.returns
returns c = each_refusal_is_named
