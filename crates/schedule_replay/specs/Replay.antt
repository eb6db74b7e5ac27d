-- What a replay gives for its steps.
use Rattle.std.specs.Prelude.{◌≡◌, ◌⊎◌, ℕ, ◌+◌, ◌<◌, ◌≤◌, List, length, take, slice_index_or, Some, None, Result, Ok, Err}
use Rattle.helios_model.specs.Plans.{PlanData}
use Rattle.disk_store.specs.Memory.{MemState}
use Rattle.schedule_text.specs.declared.steps.Step.{Step}
use Rattle.schedule_replay.specs.declared.report.Report.{Report}
use Rattle.schedule_replay.specs.declared.refusal.ReplayRefusal.{ReplayRefusal}
use Rattle.schedule_replay.specs.declared.refusal.ReplayRefusal.TheVariants.{ReplayFull, NoSuchMessage, NotForSite, NoMemory}
use Rattle.schedule_replay.specs.Progress.{progress, reached, report_of}
use Rattle.schedule_replay.specs.Refusals.{first_refusal}
use Rattle.schedule_replay.specs.Report.{refusals_in}
use Rattle.schedule_replay.specs.Seats.{BenchBetween, BenchStands}

-- the report of these steps: its text, the commits of all sites, and how many refusals were told
pub record IsReport (plan : PlanData) (steps : List Step) (report : Report) : Type 0 where
  pub text : report.text ≡ report_of plan steps
  pub commits : report.commits ≡ (reached plan steps).history
  pub refusals : report.refusals ≡ refusals_in (reached plan steps).told

-- the bench stands for the journals that the first steps reach, so many of them
abbrev pub StandsAfter : PlanData → List Step → List MemState → ℕ → Type 0
StandsAfter plan steps bench k = (k ≤ length steps) × BenchStands plan (reached plan (take k steps)) bench

-- want of memory came between two steps or within one, whose batch may then be added; no step that was begun was to be refused
pub record IsCutShort (plan : PlanData) (steps : List Step) (bench : List MemState) : Type 0 where
  pub taken : ℕ
  pub few : taken ≤ length steps
  pub unrefused : first_refusal plan (take taken steps) ≡ None
  pub stands : BenchStands plan (reached plan (take taken steps)) bench
      ⊎ ((taken < length steps) × (first_refusal plan (take (taken + 1) steps) ≡ None)
      × ((s : Step) → BenchBetween plan (progress plan (take taken steps)) (slice_index_or steps taken s) bench))

-- The report of the steps, where none is refused, and the bench stands for the journals that they reach; or the first refusal, and the bench stands
-- for the journals of the steps before that one; or want of memory.
abbrev pub Replays : PlanData → List Step → List MemState → Result Report ReplayRefusal → Type 0
Replays plan steps bench (Ok report) = (first_refusal plan steps ≡ None) × IsReport plan steps report × BenchStands plan (reached plan steps) bench
Replays plan steps bench (Err (ReplayFull step)) = (first_refusal plan steps ≡ Some (ReplayFull step)) × StandsAfter plan steps bench step
Replays plan steps bench (Err (NoSuchMessage step)) = (first_refusal plan steps ≡ Some (NoSuchMessage step)) × StandsAfter plan steps bench step
Replays plan steps bench (Err (NotForSite step)) = (first_refusal plan steps ≡ Some (NotForSite step)) × StandsAfter plan steps bench step
Replays plan steps bench (Err NoMemory) = IsCutShort plan steps bench
