use Rattle.protocol_laws.proofs.WorldLaws.{each_ending_follows}
use Rattle.protocol_laws.proofs.laws.each_ending_follows.Goals as goal

pub returns : goal.returns
returns c = each_ending_follows
