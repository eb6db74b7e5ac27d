use Rattle.node_journal.proofs.Lists.{at_most_one}
use Rattle.node_journal.proofs.laws.one_list.Goals as goal

pub returns : goal.returns
returns c = at_most_one
