use Rattle.weighted_plan.proofs.Duality.{flows_show_optimal}
use Rattle.weighted_plan.proofs.laws.flows_show_optimal.Goals as goal

pub returns : goal.returns
returns c = flows_show_optimal
