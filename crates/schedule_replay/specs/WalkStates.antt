-- What contracts see of a walk.
use Rattle.std.specs.Prelude.{ℕ, List, Option}
use Rattle.helios_model.specs.declared.messages.Message.{Message}
use Rattle.helios_model.specs.declared.records.CommitEvent.{CommitEvent}
use Rattle.helios_model.specs.Plans.{PlanData}
use Rattle.node_host.specs.States.{HostState}

-- the plan, the host of each site that was opened, the messages that were released and the commits so far, the lines, how many refusals
-- were told, how many steps were taken, and what was written, in bytes
pub record WalkState : Type 0 where
  pub plan : PlanData
  pub hosts : List (Option HostState)
  pub sent : List Message
  pub commits : List CommitEvent
  pub text : List ℕ
  pub refusals : ℕ
  pub number : ℕ
  pub volume : ℕ
