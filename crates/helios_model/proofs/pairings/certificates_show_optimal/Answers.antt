use Rattle.helios_model.proofs.Optimality.{certificate_shows_optimal}
use Rattle.helios_model.proofs.pairings.certificates_show_optimal.Goals as goal

pub returns : goal.returns
returns c = certificate_shows_optimal
