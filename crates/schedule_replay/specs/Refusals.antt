-- Which schedules a replay refuses: too much was written before a step, or the step takes in a message that was not sent before it, or one for
-- another site.
use Rattle.std.specs.Prelude.{◌≡◌, ℕ, List, [], ◌∷◌, Option, Some, None, nat_eq, nat_lt, if◌then◌else◌, slice_get, ◌++◌, codes, decimal}
use Rattle.std.specs.Option.{option_or}
use Rattle.helios_model.specs.declared.messages.Message.{Message}
use Rattle.helios_model.specs.Plans.{PlanData}
use Rattle.helios_model.specs.World.{World}
use Rattle.schedule_text.specs.declared.planned.Planned.{Planned}
use Rattle.schedule_text.specs.declared.planned.Planned.TheVariants.{Get, Status, Request, Pull, Push}
use Rattle.schedule_text.specs.declared.steps.Step.{Step}
use Rattle.schedule_text.specs.declared.steps.Step.TheVariants.{Batch, Restart}
use Rattle.schedule_replay.specs.declared.refusal.ReplayRefusal.{ReplayRefusal}
use Rattle.schedule_replay.specs.declared.refusal.ReplayRefusal.TheVariants.{ReplayFull, NoSuchMessage, NotForSite, NoMemory}
use Rattle.schedule_replay.specs.Progress.{Progress, first_progress, most_volume, pass, volume}

-- why a site cannot take in what stands at the number of a message: there is none, or it is for another site
abbrev pub push_refusal : ℕ → ℕ → Option Message → Option ReplayRefusal
push_refusal step site None = Some (NoSuchMessage step)
push_refusal step site (Some m) = if nat_eq m.to site then None else Some (NotForSite step)

-- only an input that takes a message in is refused
abbrev pub input_refusal : List Message → ℕ → ℕ → Planned → Option ReplayRefusal
input_refusal sent step site (Get key) = None
input_refusal sent step site (Status id) = None
input_refusal sent step site (Request at reads puts) = None
input_refusal sent step site (Pull at to) = None
input_refusal sent step site (Push at message) = push_refusal step site (slice_get sent message)

-- the first refusal of the inputs of a batch, in their order, over the messages that were sent before it
abbrev pub inputs_refusal : List Message → ℕ → ℕ → List Planned → Option ReplayRefusal
inputs_refusal sent step site [] = None
inputs_refusal sent step site (i ∷ is) = option_or (input_refusal sent step site i) (inputs_refusal sent step site is)

-- why a step with this number is refused before it is run
abbrev pub step_refusal : World → ℕ → Step → Option ReplayRefusal
step_refusal w number (Batch site inputs stop) = inputs_refusal w.sent number site inputs
step_refusal w number (Restart site stop) = None

-- why the next step is refused before it is run
abbrev pub refusal_of : Progress → Step → Option ReplayRefusal
refusal_of p s = if nat_lt most_volume (volume p) then Some (ReplayFull p.number) else step_refusal p.world p.number s

-- the first refusal of the steps to come
abbrev pub refusal_from : PlanData → Progress → List Step → Option ReplayRefusal
refusal_from plan p [] = None
refusal_from plan p (s ∷ ss) = option_or (refusal_of p s) (refusal_from plan (pass plan p s) ss)

-- the first refusal of a schedule
abbrev pub first_refusal : PlanData → List Step → Option ReplayRefusal
first_refusal plan steps = refusal_from plan (first_progress plan) steps

-- a refusal is the one that was found; want of memory may come at any time
abbrev pub IsRefusedBy : Option ReplayRefusal → ReplayRefusal → Type 0
IsRefusedBy found (ReplayFull step) = found ≡ Some (ReplayFull step)
IsRefusedBy found (NoSuchMessage step) = found ≡ Some (NoSuchMessage step)
IsRefusedBy found (NotForSite step) = found ≡ Some (NotForSite step)
IsRefusedBy found NoMemory = Unit {0}

-- how a refusal is printed
abbrev pub refusal_text : ReplayRefusal → List ℕ
refusal_text (ReplayFull step) = codes "replay-full " ++ decimal step
refusal_text (NoSuchMessage step) = codes "no-such-message " ++ decimal step
refusal_text (NotForSite step) = codes "not-for-site " ++ decimal step
refusal_text NoMemory = codes "no-memory"
