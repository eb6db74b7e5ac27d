use Rattle.helios_model.proofs.Optimality.{partners_add_up}
use Rattle.helios_model.proofs.pairings.partners_add_up.Goals as goal

pub returns : goal.returns
returns c = partners_add_up
