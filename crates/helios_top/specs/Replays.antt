-- What the replay of a schedule comes to, whatever is printed of it: the world that its steps reach, and the bench that it leaves.
use Rattle.std.specs.Prelude.{◌≡◌, ◌⊎◌, List, ℕ, length, map, Some, Ok, IsOkAnd}
use Rattle.protocol_laws.specs.Safe.{IsSafe}
use Rattle.helios_model.specs.Plans.{PlanData}
use Rattle.helios_model.specs.World.{StepsReach}
use Rattle.helios_model.specs.declared.records.CommitEvent.{CommitEvent}
use Rattle.disk_store.specs.Memory.{MemState}
use Rattle.history_audit.specs.Auditing.{audit_of}
use Rattle.history_audit.specs.Printing.{history_text, item_of}
use Rattle.history_audit.specs.Reading.{history_of_text}
use Rattle.history_audit.specs.declared.verdict.AuditVerdict.TheVariants.{Serial}
use Rattle.outside_io.specs.Seen.{SourceSeen}
use Rattle.schedule_text.specs.declared.steps.Schedule.{Schedule}
use Rattle.schedule_text.specs.declared.steps.Step.{Step}
use Rattle.schedule_text.specs.Reading.{schedule_of_text}
use Rattle.schedule_replay.specs.declared.refusal.ReplayRefusal.{ReplayRefusal}
use Rattle.schedule_replay.specs.declared.refusal.ReplayRefusal.TheVariants as refusals
use Rattle.schedule_replay.specs.declared.report.Report.{Report}
use Rattle.schedule_replay.specs.Progress.{reached, report_of}
use Rattle.schedule_replay.specs.Refusals.{first_refusal}
use Rattle.schedule_replay.specs.Replay.{IsCutShort, StandsAfter}
use Rattle.schedule_replay.specs.Report.{refusals_in}
use Rattle.schedule_replay.specs.Seats.{BenchStands}
use Rattle.helios_top.specs.declared.replay.Told.{Told}
use Rattle.helios_top.specs.declared.replay.Told.TheVariants as told
use Rattle.helios_top.specs.declared.ending.Refusal.{Refusal}
use Rattle.helios_top.specs.declared.ending.Refusal.TheVariants.{NoSuchSite, OfHistory, OfMatrix, OfPlan, OfReplay, OfSchedule, OfWeights, ShortPair, TooLarge}
use Rattle.helios_top.specs.declared.ending.Ending.{Ending}
use Rattle.helios_top.specs.declared.ending.Ending.TheVariants.{Usage, ReadFault, NoMemory, Refused, DiskFault, JournalRefused, Printed, Judged, Audited}
use Rattle.helios_top.specs.Inputs.{ReadWhole}
use Rattle.helios_top.specs.Trials.{trial_line}

-- ---- what is printed

-- what is printed of a report
abbrev pub text_told : Told → Report → List ℕ
text_told told.Report report = report.text
text_told told.History report = history_text report.commits
text_told (told.Summary number) report = trial_line number (length report.commits) report.refusals report.text

-- the report of the world that the steps of a schedule reach
abbrev pub report_in : Schedule → Report
report_in schedule = record {
  text = report_of schedule.plan schedule.steps;
  commits = (reached schedule.plan schedule.steps).history;
  refusals = refusals_in (reached schedule.plan schedule.steps).told;
}

-- `audit` reads the text of these commits as their transactions, and finds them serial
pub record PassesAudit (commits : List CommitEvent) : Type 0 where
  pub read_again : history_of_text (history_text commits) ≡ Ok (map item_of commits)
  pub serial : audit_of (map item_of commits) ≡ Serial (length commits)

-- the schedule was replayed, and this is printed of it
pub record IsReplayed (what : Told) (schedule : Schedule) (ending : Ending) : Type 0 where
  pub printed : ending ≡ Printed (text_told what (report_in schedule))
  -- the world that its report tells is one that permitted steps reach from the first one
  pub permitted : StepsReach schedule.plan (reached schedule.plan schedule.steps)
  -- and it is safe: its commits are a serial history, each refusal names what stood in its way, and what was told stays true
  pub safe : IsSafe schedule.plan (reached schedule.plan schedule.steps)
  -- a history passes the audit
  pub audited : what ≡ told.History → PassesAudit (reached schedule.plan schedule.steps).history

-- what is answered to a text that is a schedule
abbrev pub IsScheduleAnswer : Told → Ending → List ℕ → Type 0
IsScheduleAnswer what ending bytes = IsOkAnd (schedule_of_text bytes) (λ schedule. IsReplayed what schedule ending)

-- ---- the bench that is left

-- the bench stands for the journals of the steps before the one that is refused
abbrev pub StandsBefore : PlanData → List Step → List MemState → ReplayRefusal → Type 0
StandsBefore plan steps bench (refusals.ReplayFull step) = StandsAfter plan steps bench step
StandsBefore plan steps bench (refusals.NoSuchMessage step) = StandsAfter plan steps bench step
StandsBefore plan steps bench (refusals.NotForSite step) = StandsAfter plan steps bench step
StandsBefore plan steps bench refusals.NoMemory = ⊥

-- the bench after the replay of a schedule was refused
abbrev pub IsLeftRefused : Schedule → List MemState → Refusal → Type 0
IsLeftRefused schedule bench TooLarge = ⊥
IsLeftRefused schedule bench (OfSchedule refusal) = ⊥
IsLeftRefused schedule bench (OfReplay refusal) =
    (first_refusal schedule.plan schedule.steps ≡ Some refusal) × StandsBefore schedule.plan schedule.steps bench refusal
IsLeftRefused schedule bench (OfPlan refusal) = ⊥
IsLeftRefused schedule bench (OfMatrix refusal) = ⊥
IsLeftRefused schedule bench (OfHistory refusal) = ⊥
IsLeftRefused schedule bench (OfWeights refusal) = ⊥
IsLeftRefused schedule bench (ShortPair i j) = ⊥
IsLeftRefused schedule bench (NoSuchSite site) = ⊥

-- The bench after the replay of a schedule, by its end. Status 0: each site's disk holds its journal in the world that is reported. 5: each holds its
-- journal in the world before the refused step. 4: each holds its journal in the world between two steps, or within one.
abbrev pub IsLeftBy : Told → Schedule → List MemState → Ending → Type 0
IsLeftBy what schedule bench Usage = ⊥
IsLeftBy what schedule bench ReadFault = ⊥
IsLeftBy what schedule bench NoMemory = IsCutShort schedule.plan schedule.steps bench
IsLeftBy what schedule bench (Refused refusal) = IsLeftRefused schedule bench refusal
IsLeftBy what schedule bench DiskFault = ⊥
IsLeftBy what schedule bench (JournalRefused refusal) = ⊥
IsLeftBy what schedule bench (Printed text) =
    IsReplayed what schedule (Printed text) × BenchStands schedule.plan (reached schedule.plan schedule.steps) bench
IsLeftBy what schedule bench (Judged verdict) = ⊥
IsLeftBy what schedule bench (Audited verdict) = ⊥

-- a refusal of the text alone
abbrev pub IsOfText : Refusal → Type 0
IsOfText TooLarge = Unit {0}
IsOfText (OfSchedule refusal) = Unit {0}
IsOfText (OfReplay refusal) = ⊥
IsOfText (OfPlan refusal) = ⊥
IsOfText (OfMatrix refusal) = ⊥
IsOfText (OfHistory refusal) = ⊥
IsOfText (OfWeights refusal) = ⊥
IsOfText (ShortPair i j) = ⊥
IsOfText (NoSuchSite site) = ⊥

-- an end that comes before the replay: 2, or 4, or 5 with a refusal of the text
abbrev pub IsBeforeReplay : Ending → Type 0
IsBeforeReplay Usage = ⊥
IsBeforeReplay ReadFault = Unit {0}
IsBeforeReplay NoMemory = Unit {0}
IsBeforeReplay (Refused refusal) = IsOfText refusal
IsBeforeReplay DiskFault = ⊥
IsBeforeReplay (JournalRefused refusal) = ⊥
IsBeforeReplay (Printed text) = ⊥
IsBeforeReplay (Judged verdict) = ⊥
IsBeforeReplay (Audited verdict) = ⊥

-- nothing was replayed, and the bench is as before; or the whole input is a schedule, and the bench is what its replay left
abbrev pub ReplayLeaves : Told → SourceSeen → SourceSeen → List MemState → List MemState → Ending → Type 0
ReplayLeaves what old new held left ending = (IsBeforeReplay ending × (left ≡ held))
    ⊎ ReadWhole old new (λ bytes. IsOkAnd (schedule_of_text bytes) (λ schedule. IsLeftBy what schedule left ending))
