use Rattle.helios_model.proofs.Optimality.{pairings_are_orders}
use Rattle.helios_model.proofs.pairings.pairings_are_orders.Goals as goal

pub returns : goal.returns
returns c = pairings_are_orders
