use Rattle.protocol_laws.proofs.Waiting.{each_commit_waited}
use Rattle.protocol_laws.proofs.laws.each_commit_waited.Goals as goal

pub returns : goal.returns
returns c = each_commit_waited
