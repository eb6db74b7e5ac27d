use Rattle.node_host.proofs.Answers.{commits_join}
use Rattle.node_host.proofs.laws.commits_are_joined.Goals as goal

pub returns : goal.returns
returns c = commits_join
