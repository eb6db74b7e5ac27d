-- What is printed of a replay, and the bench that it leaves.
use Rattle.std.proofs.Common.{◌≡◌, ◌∙◌, ap, sym, subst, ℕ, inl, List, length, Option, Result, Ok, Err, All, arith}
use Rattle.std.proofs.lemmas.List.{take_all}
use Rattle.std.proofs.lemmas.List.Elements.{All-weaker}
use Rattle.std.specs.Prelude.{option_map, IsErrAnd}
use Rattle.std.specs.declared.alloc.AllocError.{AllocError}
use Rattle.disk_store.specs.Memory.{MemState}
use Rattle.helios_model.specs.declared.records.CommitEvent.{CommitEvent}
use Rattle.helios_model.specs.Plans.{PlanData, IsAccepted, count_of}
use Rattle.helios_model.specs.Serial.{IsSerial}
use Rattle.helios_model.specs.Spellable.{IsSpellableId}
use Rattle.helios_model.specs.World.{World, StepsReach}
use Rattle.history_audit.specs.Printing.{IsDated}
use Rattle.protocol_laws.specs.Safe.{IsSafe}
use Rattle.protocol_laws.specs.Times.{EachCommitIsSpellable}
use Rattle.schedule_text.specs.declared.steps.Schedule.{Schedule}
use Rattle.schedule_text.specs.declared.steps.Step.{Step}
use Rattle.schedule_replay.specs.declared.refusal.ReplayRefusal.{ReplayRefusal}
use Rattle.schedule_replay.specs.declared.report.Report.{Report}
use Rattle.schedule_replay.specs.Progress.{reached, report_of}
use Rattle.schedule_replay.specs.Refusals.{first_refusal}
use Rattle.schedule_replay.specs.Replay.{IsCutShort, IsReport, Replays}
use Rattle.schedule_replay.specs.Seats.{BenchStands}
use Rattle.helios_top.specs.declared.replay.Told.{Told}
use Rattle.helios_top.specs.declared.replay.Told.TheVariants as told
use Rattle.helios_top.specs.declared.ending.Refusal.TheVariants.{OfReplay}
use Rattle.helios_top.specs.declared.ending.Ending.{Ending}
use Rattle.helios_top.specs.declared.ending.Ending.TheVariants.{Printed}
use Rattle.helios_top.specs.Ending.{RefusedOr, end_of}
use Rattle.helios_top.specs.Refusals.{replay_refusal}
use Rattle.helios_top.specs.Replays.{IsLeftBy, IsReplayed, PassesAudit, report_in, text_told}

-- each commit of a world has a time that a text can spell
dated : (plan : PlanData) (w : World) → EachCommitIsSpellable → IsAccepted plan → StepsReach plan w → All IsDated w.history
dated plan w spellable accepted reach =
    subst (λ (x : World). All IsDated x.history) (sym reach.reach)
    (All-weaker (λ e. IsSpellableId (count_of plan) e.prepare.id) IsDated (λ e id. (id.some, id.last)) _ (spellable plan reach.events reach.may accepted))

-- a report that tells the world is the one of the world
same_report : (schedule : Schedule) (report : Report) → IsReport schedule.plan schedule.steps report → report ≡ report_in schedule
same_report schedule report is =
    ap (λ (text : List ℕ). record { text = text; commits = report.commits; refusals = report.refusals }) is.text
    ∙ ap (λ (commits : List CommitEvent). record { text = report_of schedule.plan schedule.steps; commits = commits; refusals = report.refusals }) is.commits
    ∙ ap (λ (refusals : ℕ). record { text = report_of schedule.plan schedule.steps; commits = (reached schedule.plan schedule.steps).history; refusals = refusals }) is.refusals

-- what is told of a replay that was not refused
pub record IsTold (what : Told) (schedule : Schedule) (bench : List MemState) (report : Report) (text : List ℕ) : Type 0 where
  pub accepted : IsAccepted schedule.plan
  pub replays : Replays schedule.plan schedule.steps bench (Ok report)
  pub reach : StepsReach schedule.plan (reached schedule.plan schedule.steps)
  pub safe : IsSafe schedule.plan (reached schedule.plan schedule.steps)
  pub text_is : text ≡ text_told what report
  pub audited : what ≡ told.History → IsSerial report.commits → All IsDated report.commits → PassesAudit report.commits

replayed : (what : Told) (schedule : Schedule) (bench : List MemState) (report : Report) (text : List ℕ) → EachCommitIsSpellable
    → IsTold what schedule bench report text → IsReplayed what schedule (Printed text)
replayed what schedule bench report text spellable h =
    let commits = h.replays.1.commits in
    record {
      printed = ap Printed (h.text_is ∙ ap (text_told what) (same_report schedule report h.replays.1));
      permitted = h.reach;
      safe = h.safe;
      audited = λ is. subst PassesAudit commits (h.audited is (subst IsSerial (sym commits) h.safe.serial)
          (subst (All IsDated) (sym commits) (dated schedule.plan (reached schedule.plan schedule.steps) spellable h.accepted h.reach)));
    }

pub told_ends : (what : Told) (schedule : Schedule) (bench : List MemState) (report : Report) (text : List ℕ) → EachCommitIsSpellable
    → IsTold what schedule bench report text → RefusedOr (replay_refusal schedule) (Printed text) (IsReplayed what schedule (Printed text))
told_ends what schedule bench report text spellable h =
    subst (λ (found : Option ReplayRefusal). RefusedOr (option_map OfReplay found) (Printed text) (IsReplayed what schedule (Printed text)))
    (sym h.replays.0) (tt, replayed what schedule bench report text spellable h)

pub told_leaves : (what : Told) (schedule : Schedule) (bench : List MemState) (report : Report) (text : List ℕ) → EachCommitIsSpellable
    → IsTold what schedule bench report text → IsLeftBy what schedule bench (Printed text)
told_leaves what schedule bench report text spellable h = (replayed what schedule bench report text spellable h, h.replays.2)

-- where there was no memory for what is told, the bench stands for all steps
cut_at_the_end : (schedule : Schedule) (bench : List MemState) (report : Report) → Replays schedule.plan schedule.steps bench (Ok report)
    → IsCutShort schedule.plan schedule.steps bench
cut_at_the_end schedule bench report h = record {
  taken = length schedule.steps;
  few = omega arith;
  unrefused = ap (first_refusal schedule.plan) (take_all (length schedule.steps) schedule.steps (omega arith)) ∙ h.0;
  stands = inl (subst (λ (steps : List Step). BenchStands schedule.plan (reached schedule.plan steps) bench)
      (sym (take_all (length schedule.steps) schedule.steps (omega arith))) h.2);
}

pub left_at_the_end : (what : Told) (schedule : Schedule) (bench : List MemState) (report : Report) (result : Result Ending AllocError) (P : AllocError → Type 0) → IsErrAnd result P
    → Replays schedule.plan schedule.steps bench (Ok report) → IsLeftBy what schedule bench (end_of result)
left_at_the_end what schedule bench report (Ok ending) P failed h = absurd failed
left_at_the_end what schedule bench report (Err error) P failed h = cut_at_the_end schedule bench report h
