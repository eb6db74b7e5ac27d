use Rattle.protocol_laws.proofs.ToldReplies.{each_sent_is_told}
use Rattle.protocol_laws.proofs.laws.each_sent_is_told.Goals as goal

pub returns : goal.returns
returns c = each_sent_is_told
