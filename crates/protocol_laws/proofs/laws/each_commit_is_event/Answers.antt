use Rattle.protocol_laws.proofs.WorldLaws.{each_commit_is_event}
use Rattle.protocol_laws.proofs.laws.each_commit_is_event.Goals as goal

pub returns : goal.returns
returns c = each_commit_is_event
