use Rattle.node_host.proofs.Holdings.{head_keeps}
use Rattle.node_host.proofs.laws.what_a_head_keeps.Goals as goal

pub returns : goal.returns
returns c = head_keeps c.one_list.ensures
