-- Which schedules a replay takes.
use Rattle.std.specs.Prelude.{◌≤◌, List, length, All}
use Rattle.helios_model.specs.Plans.{PlanData, IsAccepted}
use Rattle.schedule_text.specs.declared.steps.Step.{Step}
use Rattle.schedule_text.specs.Steps.{IsStep, most_steps}

-- an accepted plan, and at most so many steps that the plan can have
pub record IsReplayable (plan : PlanData) (steps : List Step) : Type 0 where
  pub accepted : IsAccepted plan
  pub few : length steps ≤ most_steps
  pub each : All (IsStep plan) steps
