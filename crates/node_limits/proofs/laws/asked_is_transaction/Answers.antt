use Rattle.node_limits.proofs.Asked.{asked_limits}
use Rattle.node_limits.proofs.laws.asked_is_transaction.Goals as goal

pub returns : goal.returns
returns c = asked_limits
