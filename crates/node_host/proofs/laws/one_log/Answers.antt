use Rattle.node_host.proofs.Endings.{one_log}
use Rattle.node_host.proofs.laws.one_log.Goals as goal

pub returns : goal.returns
returns c = λ plan site.
    one_log c.one_reading.ensures c.one_frame.ensures c.no_frame.ensures c.next_of_list.ensures c.no_list.ensures plan site c.one_list.ensures
