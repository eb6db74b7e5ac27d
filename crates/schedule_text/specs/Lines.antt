-- How refusals of a schedule are printed.
use Rattle.std.specs.Prelude.{ℕ, List, ◌++◌, codes, decimal}
use Rattle.commit_offsets.specs.Lines as plans
use Rattle.schedule_text.specs.declared.refusal.ScheduleRefusal.{ScheduleRefusal}
use Rattle.schedule_text.specs.declared.refusal.ScheduleRefusal.TheVariants as refusals

abbrev pub refusal_text : ScheduleRefusal → List ℕ
refusal_text refusals.NotJson = codes "not-json"
refusal_text refusals.BadShape = codes "bad-shape"
refusal_text (refusals.PlanRefused refusal) = codes "plan " ++ plans.refusal_text refusal
refusal_text (refusals.ShortPair i j) = codes "short-pair " ++ decimal i ++ codes " " ++ decimal j
refusal_text (refusals.TooManySteps count) = codes "too-many-steps " ++ decimal count
refusal_text (refusals.BadStep number) = codes "bad-step " ++ decimal number
refusal_text refusals.NoMemory = codes "no-memory"
