use Rattle.node_journal.proofs.Lists.{none_at_all}
use Rattle.node_journal.proofs.laws.no_list.Goals as goal

pub returns : goal.returns
returns c = none_at_all
