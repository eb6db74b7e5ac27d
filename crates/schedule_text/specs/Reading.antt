-- The schedule that a text says, or the first rule that the text breaks.
use Rattle.std.specs.Prelude.{ℕ, List, Option, Some, None, Result, Ok, Err, codes}
use Rattle.serde_json.specs.Data.{Data, Items}
use Rattle.serde_json.specs.Events.{items_len}
use Rattle.serde_json.specs.Find.{get}
use Rattle.commit_offsets.specs.Reading.{plan_at}
use Rattle.commit_offsets.specs.declared.refusal.PlanRefusal.{PlanRefusal}
use Rattle.helios_model.specs.Plans.{PlanData}
use Rattle.helios_model.specs.Short.{first_short_of}
use Rattle.helios_model.specs.declared.plans.Certificate.{Certificate}
use Rattle.json_text.specs.Lists.{list_of}
use Rattle.json_text.specs.Members.{array_member}
use Rattle.json_text.specs.Reading.{◌>>=◌, required}
use Rattle.json_text.specs.Text.{json_of}
use Rattle.schedule_text.specs.declared.refusal.ScheduleRefusal.{ScheduleRefusal}
use Rattle.schedule_text.specs.declared.refusal.ScheduleRefusal.TheVariants.{NotJson, BadShape, PlanRefused, ShortPair, TooManySteps, BadStep}
use Rattle.schedule_text.specs.declared.steps.Schedule.{Schedule}
use Rattle.schedule_text.specs.declared.steps.Step.{Step}
use Rattle.schedule_text.specs.Stepping.{step_at}
use Rattle.schedule_text.specs.Steps.{most_steps}

-- the plan alone, or its refusal
abbrev pub plan_read : Result (PlanData × Certificate) PlanRefusal → Result PlanData ScheduleRefusal
plan_read (Ok read) = Ok read.0
plan_read (Err refusal) = Err (PlanRefused refusal)

-- a plan that has no short pair
abbrev pub unless_short : PlanData → Option (ℕ × ℕ) → Result PlanData ScheduleRefusal
unless_short plan None = Ok plan
unless_short plan (Some pair) = Err (ShortPair pair.0 pair.1)

-- the plan that a value says, if it is accepted
unfoldable pub accepted_at : Data → Result PlanData ScheduleRefusal
accepted_at d = plan_read (plan_at d) >>= λ plan. unless_short plan (first_short_of plan)

-- at most 100,000 steps, or the first that has no form of a step, by its number
unfoldable pub steps_of : PlanData → Items → Result (List Step) ScheduleRefusal
steps_of plan items = list_of most_steps (TooManySteps (items_len items)) (λ number d. required (BadStep number) (step_at plan d)) items

-- what a JSON value says as a schedule
unfoldable pub schedule_at : Data → Result Schedule ScheduleRefusal
schedule_at d = do
  given ← required BadShape (get (codes "plan") d)
  items ← required BadShape (array_member (codes "steps") d)
  plan ← accepted_at given
  steps ← steps_of plan items
  Ok (record { plan = plan; steps = steps })

-- what a text says as a schedule
unfoldable pub schedule_of_text : List ℕ → Result Schedule ScheduleRefusal
schedule_of_text bytes = required NotJson (json_of bytes) >>= schedule_at
