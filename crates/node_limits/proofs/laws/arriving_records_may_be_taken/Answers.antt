use Rattle.node_limits.proofs.Arriving.{may_take_all}
use Rattle.node_limits.proofs.laws.arriving_records_may_be_taken.Goals as goal

pub returns : goal.returns
returns c = may_take_all
