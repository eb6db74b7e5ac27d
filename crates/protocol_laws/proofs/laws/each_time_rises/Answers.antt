use Rattle.protocol_laws.proofs.AskedNodes.{each_time_rises}
use Rattle.protocol_laws.proofs.laws.each_time_rises.Goals as goal

pub returns : goal.returns
returns c = each_time_rises
