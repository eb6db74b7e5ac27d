use Rattle.node_host.proofs.Sizes.{stands_at_its_end}
use Rattle.node_host.proofs.laws.a_host_stands_at_its_end.Goals as goal

pub returns : goal.returns
returns c = stands_at_its_end c.one_gate.ensures c.what_is_read_is_a_batch.ensures
