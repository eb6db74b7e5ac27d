use Rattle.node_journal.proofs.Lists.{next_of_list}
use Rattle.node_journal.proofs.laws.next_of_list.Goals as goal

pub returns : goal.returns
returns c = next_of_list
