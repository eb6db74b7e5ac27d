-- The worlds that steps reach from the first one.
use Rattle.std.specs.Prelude.{ℕ, ◌<◌, List}
use Rattle.helios_model.specs.Plans.{PlanData, count_of}
use Rattle.helios_model.specs.Node.{Node}
use Rattle.helios_model.specs.World.{World, Event, MayRun, first_world, node_of, run}

-- so it is in each world that steps reach from the first one
abbrev pub InEachWorld : (PlanData → World → Type 0) → Type 0
InEachWorld F = (plan : PlanData) (events : List Event) → MayRun plan (first_world plan) events → F plan (run plan (first_world plan) events)

-- so it is of each site's node in each such world
abbrev pub AtEachNode : (PlanData → Node → Type 0) → Type 0
AtEachNode F = InEachWorld (λ plan w. (k : ℕ) → k < count_of plan → F plan (node_of plan w k))
