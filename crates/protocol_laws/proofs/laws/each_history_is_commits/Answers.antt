use Rattle.protocol_laws.proofs.WorldLaws.{each_history_is_commits}
use Rattle.protocol_laws.proofs.laws.each_history_is_commits.Goals as goal

pub returns : goal.returns
returns c = each_history_is_commits
