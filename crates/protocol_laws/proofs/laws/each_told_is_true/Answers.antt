use Rattle.protocol_laws.proofs.ToldReplies.{each_told_is_true}
use Rattle.protocol_laws.proofs.laws.each_told_is_true.Goals as goal

pub returns : goal.returns
returns c = each_told_is_true
