use Rattle.node_limits.proofs.WithinLimits.{current_fine}
use Rattle.node_limits.proofs.laws.each_current_version_is_spellable.Goals as goal

pub returns : goal.returns
returns c = current_fine
