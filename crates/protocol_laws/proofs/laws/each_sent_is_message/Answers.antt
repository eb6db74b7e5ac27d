use Rattle.protocol_laws.proofs.ToldLaws.{each_sent_is_message}
use Rattle.protocol_laws.proofs.laws.each_sent_is_message.Goals as goal

pub returns : goal.returns
returns c = each_sent_is_message
