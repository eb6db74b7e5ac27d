use Rattle.helios_model.proofs.PlanLimits.{latencies_fit}
use Rattle.helios_model.proofs.plans.Plan.total.Goals as goal

pub sum_of-requires : goal.sum_of-requires
sum_of-requires c = rw c.items.ensures (latencies_fit c.self.inside.names c.self.inside.rtt c.self.inside.latency c.self.invariant)
