use Rattle.node_host.proofs.Damages.{own_ends}
use Rattle.node_host.proofs.laws.an_own_journal_is_opened.Goals as goal

pub returns : goal.returns
returns c = λ plan site limit bytes batches fault roomy holds ends. own_ends c.next_of_list.ensures c.no_list.ensures plan site bytes batches holds limit fault roomy ends
