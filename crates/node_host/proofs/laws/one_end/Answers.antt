use Rattle.node_host.proofs.Endings.{one_end}
use Rattle.node_host.proofs.laws.one_end.Goals as goal

pub returns : goal.returns
returns c = λ plan site. one_end c.one_reading.ensures c.one_frame.ensures c.no_frame.ensures c.next_of_list.ensures c.no_list.ensures plan site
