use Rattle.node_limits.proofs.WithinLimits.{value_fine}
use Rattle.node_limits.proofs.laws.each_current_value_is_a_value.Goals as goal

pub returns : goal.returns
returns c = value_fine
