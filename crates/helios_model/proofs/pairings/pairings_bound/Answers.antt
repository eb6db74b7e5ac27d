use Rattle.helios_model.proofs.Optimality.{pairings_bound}
use Rattle.helios_model.proofs.pairings.pairings_bound.Goals as goal

pub returns : goal.returns
returns c = pairings_bound
