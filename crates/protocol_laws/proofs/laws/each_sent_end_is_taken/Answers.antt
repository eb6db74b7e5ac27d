use Rattle.protocol_laws.proofs.WorldLaws.{each_sent_end_is_taken}
use Rattle.protocol_laws.proofs.laws.each_sent_end_is_taken.Goals as goal

pub returns : goal.returns
returns c = each_sent_end_is_taken
