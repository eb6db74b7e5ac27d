use Rattle.node_host.proofs.Holdings.{holding_is_one}
use Rattle.node_host.proofs.laws.one_holding.Goals as goal

pub returns : goal.returns
returns c = holding_is_one c.one_list.ensures
