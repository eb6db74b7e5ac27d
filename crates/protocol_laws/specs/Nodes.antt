-- What each node keeps, whatever it is asked.
use Rattle.std.specs.Prelude.{◌≡◌, ◌≢◌, ℕ, ◌+◌, ◌<◌, ◌≤◌, All}
use Rattle.helios_model.specs.declared.records.Record.{Record}
use Rattle.helios_model.specs.declared.records.Record.TheVariants.{Prepare, Commit, Abort}
use Rattle.helios_model.specs.Plans.{PlanData, count_of, rtt, latency}
use Rattle.helios_model.specs.Log.{origin, own_time}
use Rattle.helios_model.specs.Node.{Node, known}
use Rattle.protocol_laws.specs.Shapes.{Rises}

-- the own times of each origin rise strictly from above 0, and each is at most what the node's own row of times has of
-- its origin: for an own record that is the site's clock
pub record OwnTimesRise (plan : PlanData) (n : Node) : Type 0 where
  pub rise : Rises n.log
  pub positive : All (λ r. 0 < own_time r) n.log
  pub within : All (λ r. own_time r ≤ known plan n n.site (origin r)) n.log

-- an own Commit waited until the node had heard of every other site far enough past the time of its id
abbrev pub IsWaited : PlanData → Node → Record → Type 0
IsWaited plan n (Prepare p) = Unit {0}
IsWaited plan n (Commit id time) = id.site ≡ n.site → (j : ℕ) → j < count_of plan → j ≢ n.site
    → id.time + latency plan n.site ≤ known plan n n.site j + rtt plan n.site j
IsWaited plan n (Abort id time cause) = Unit {0}
