-- What the answers of each command come to.
use Rattle.std.proofs.Common.{Err, IsOkAnd, List, Ok, Result, length, refl, subst, ℕ, ◌≡◌}
use Rattle.history_audit.specs.declared.history.Item.{Item}
use Rattle.history_audit.specs.declared.refusal.HistoryRefusal.{HistoryRefusal}
use Rattle.history_audit.specs.declared.verdict.AuditVerdict.{AuditVerdict}
use Rattle.history_audit.specs.Reading.{history_of_text}
use Rattle.rtt_matrix.specs.declared.refusal.MatrixRefusal.{MatrixRefusal}
use Rattle.rtt_matrix.specs.Reading.{matrix_of_text}
use Rattle.helios_model.specs.Plans.{MatrixData, PlanData}
use Rattle.helios_model.specs.declared.plans.Certificate.{Certificate}
use Rattle.commit_offsets.specs.declared.refusal.PlanRefusal.{PlanRefusal}
use Rattle.commit_offsets.specs.Reading.{plan_of_text}
use Rattle.plan_certificate.specs.declared.verdict.Verdict.{Verdict}
use Rattle.schedule_text.specs.declared.refusal.ScheduleRefusal.{ScheduleRefusal}
use Rattle.schedule_text.specs.declared.steps.Schedule.{Schedule}
use Rattle.schedule_text.specs.Reading.{schedule_of_text}
use Rattle.helios_top.specs.declared.replay.Told.{Told}
use Rattle.helios_top.specs.declared.replay.Told.TheVariants as told
use Rattle.helios_top.specs.declared.words.Command.{Command}
use Rattle.helios_top.specs.declared.words.Command.TheVariants.{Audit, Check, Dump, History, Plan, Replay, Trial, Weigh}
use Rattle.helios_top.specs.declared.ending.Ending.TheVariants.{Audited, Judged}
use Rattle.helios_top.specs.declared.ending.Ending.{Ending}
use Rattle.helios_top.specs.Answers.{IsAnswer}
use Rattle.helios_top.specs.Ending.{IsAtDisk}
use Rattle.helios_top.specs.Replays.{IsReplayed}
use Rattle.helios_top.specs.Runs.Audit.{IsAudited}
use Rattle.helios_top.specs.Runs.Check.{IsJudged}
use Rattle.helios_top.specs.Runs.Dump.{IsDumpEnd}
use Rattle.helios_top.specs.Runs.Plan.{IsPlanned}
use Rattle.helios_top.specs.Runs.Weigh.{IsWeighed, IsWeighedText}
use Rattle.weighted_plan.specs.declared.refusal.WeightsRefusal.{WeightsRefusal}
use Rattle.weighted_plan.specs.Reading.{weights_of_text}

-- ---- of the commands only `check` gives a verdict on a plan

replay_judges : (what : Told) (said : Result Schedule ScheduleRefusal) (verdict : Verdict) → IsOkAnd said (λ schedule. IsReplayed what schedule (Judged verdict)) → ⊥
replay_judges what (Err refusal) verdict h = h
replay_judges what (Ok schedule) verdict h = let e = h.printed in cc

plan_judges : (said : Result MatrixData MatrixRefusal) (verdict : Verdict) → IsOkAnd said (λ matrix. IsPlanned matrix (Judged verdict)) → ⊥
plan_judges (Err refusal) verdict h = h
plan_judges (Ok matrix) verdict h = let e = h.printed in cc

audit_judges : (said : Result (List Item) HistoryRefusal) (verdict : Verdict) → IsOkAnd said (λ history. IsAudited history (Judged verdict)) → ⊥
audit_judges (Err refusal) verdict h = h
audit_judges (Ok history) verdict h = cc

weights_judge : (matrix : MatrixData) (said : Result (List ℕ) WeightsRefusal) (verdict : Verdict) → IsOkAnd said (λ weights. IsWeighed matrix weights (Judged verdict)) → ⊥
weights_judge matrix (Err refusal) verdict h = h
weights_judge matrix (Ok weights) verdict h = let e = h.printed in cc

weigh_judges : (said : Result MatrixData MatrixRefusal) (bytes : List ℕ) (verdict : Verdict)
    → IsOkAnd said (IsWeighedText bytes (Judged verdict)) → ⊥
weigh_judges (Err refusal) bytes verdict h = h
weigh_judges (Ok matrix) bytes verdict h = weights_judge matrix (weights_of_text (length matrix.names) bytes) verdict h

dump_judges : (site : ℕ) (said : Result (PlanData × Certificate) PlanRefusal) (verdict : Verdict) → IsOkAnd said (λ read. IsDumpEnd read.0 site (Judged verdict)) → ⊥
dump_judges site (Err refusal) verdict h = h
dump_judges site (Ok read) verdict h = h

pub only_check_judges : (command : Command) (verdict : Verdict) (bytes : List ℕ) → IsAnswer command (Judged verdict) bytes → command ≡ Check
only_check_judges Replay verdict bytes h = absurd (replay_judges told.Report (schedule_of_text bytes) verdict h)
only_check_judges History verdict bytes h = absurd (replay_judges told.History (schedule_of_text bytes) verdict h)
only_check_judges (Trial number) verdict bytes h = let e = h.printed in cc
only_check_judges Check verdict bytes h = refl
only_check_judges Plan verdict bytes h = absurd (plan_judges (matrix_of_text bytes) verdict h)
only_check_judges Audit verdict bytes h = absurd (audit_judges (history_of_text bytes) verdict h)
only_check_judges Weigh verdict bytes h = absurd (weigh_judges (matrix_of_text bytes) bytes verdict h)
only_check_judges (Dump site) verdict bytes h = absurd (dump_judges site (plan_of_text bytes) verdict h)

-- ---- and only `audit` one on a history

replay_audits : (what : Told) (said : Result Schedule ScheduleRefusal) (verdict : AuditVerdict) → IsOkAnd said (λ schedule. IsReplayed what schedule (Audited verdict)) → ⊥
replay_audits what (Err refusal) verdict h = h
replay_audits what (Ok schedule) verdict h = let e = h.printed in cc

plan_audits : (said : Result MatrixData MatrixRefusal) (verdict : AuditVerdict) → IsOkAnd said (λ matrix. IsPlanned matrix (Audited verdict)) → ⊥
plan_audits (Err refusal) verdict h = h
plan_audits (Ok matrix) verdict h = let e = h.printed in cc

check_audits : (said : Result (PlanData × Certificate) PlanRefusal) (verdict : AuditVerdict) → IsOkAnd said (λ read. IsJudged read.0 read.1.pair (Audited verdict)) → ⊥
check_audits (Err refusal) verdict h = h
check_audits (Ok read) verdict h = let e = h.judged in cc

weights_audit : (matrix : MatrixData) (said : Result (List ℕ) WeightsRefusal) (verdict : AuditVerdict) → IsOkAnd said (λ weights. IsWeighed matrix weights (Audited verdict)) → ⊥
weights_audit matrix (Err refusal) verdict h = h
weights_audit matrix (Ok weights) verdict h = let e = h.printed in cc

weigh_audits : (said : Result MatrixData MatrixRefusal) (bytes : List ℕ) (verdict : AuditVerdict)
    → IsOkAnd said (IsWeighedText bytes (Audited verdict)) → ⊥
weigh_audits (Err refusal) bytes verdict h = h
weigh_audits (Ok matrix) bytes verdict h = weights_audit matrix (weights_of_text (length matrix.names) bytes) verdict h

dump_audits : (site : ℕ) (said : Result (PlanData × Certificate) PlanRefusal) (verdict : AuditVerdict) → IsOkAnd said (λ read. IsDumpEnd read.0 site (Audited verdict)) → ⊥
dump_audits site (Err refusal) verdict h = h
dump_audits site (Ok read) verdict h = h

pub only_audit_audits : (command : Command) (verdict : AuditVerdict) (bytes : List ℕ) → IsAnswer command (Audited verdict) bytes → command ≡ Audit
only_audit_audits Replay verdict bytes h = absurd (replay_audits told.Report (schedule_of_text bytes) verdict h)
only_audit_audits History verdict bytes h = absurd (replay_audits told.History (schedule_of_text bytes) verdict h)
only_audit_audits (Trial number) verdict bytes h = let e = h.printed in cc
only_audit_audits Check verdict bytes h = absurd (check_audits (plan_of_text bytes) verdict h)
only_audit_audits Plan verdict bytes h = absurd (plan_audits (matrix_of_text bytes) verdict h)
only_audit_audits Audit verdict bytes h = refl
only_audit_audits Weigh verdict bytes h = absurd (weigh_audits (matrix_of_text bytes) bytes verdict h)
only_audit_audits (Dump site) verdict bytes h = absurd (dump_audits site (plan_of_text bytes) verdict h)

-- ---- and only `dump` meets the disk

replay_at_disk : (what : Told) (said : Result Schedule ScheduleRefusal) (ending : Ending) → IsOkAnd said (λ schedule. IsReplayed what schedule ending) → IsAtDisk ending → ⊥
replay_at_disk what (Err refusal) ending h at = h
replay_at_disk what (Ok schedule) ending h at = subst IsAtDisk h.printed at

plan_at_disk : (said : Result MatrixData MatrixRefusal) (ending : Ending) → IsOkAnd said (λ matrix. IsPlanned matrix ending) → IsAtDisk ending → ⊥
plan_at_disk (Err refusal) ending h at = h
plan_at_disk (Ok matrix) ending h at = subst IsAtDisk h.printed at

check_at_disk : (said : Result (PlanData × Certificate) PlanRefusal) (ending : Ending) → IsOkAnd said (λ read. IsJudged read.0 read.1.pair ending) → IsAtDisk ending → ⊥
check_at_disk (Err refusal) ending h at = h
check_at_disk (Ok read) ending h at = subst IsAtDisk h.judged at

audit_at_disk : (said : Result (List Item) HistoryRefusal) (ending : Ending) → IsOkAnd said (λ history. IsAudited history ending) → IsAtDisk ending → ⊥
audit_at_disk (Err refusal) ending h at = h
audit_at_disk (Ok history) ending h at = subst IsAtDisk h at

weights_at_disk : (matrix : MatrixData) (said : Result (List ℕ) WeightsRefusal) (ending : Ending) → IsOkAnd said (λ weights. IsWeighed matrix weights ending) → IsAtDisk ending → ⊥
weights_at_disk matrix (Err refusal) ending h at = h
weights_at_disk matrix (Ok weights) ending h at = subst IsAtDisk h.printed at

weigh_at_disk : (said : Result MatrixData MatrixRefusal) (bytes : List ℕ) (ending : Ending) → IsOkAnd said (IsWeighedText bytes ending) → IsAtDisk ending → ⊥
weigh_at_disk (Err refusal) bytes ending h at = h
weigh_at_disk (Ok matrix) bytes ending h at = weights_at_disk matrix (weights_of_text (length matrix.names) bytes) ending h at

pub only_a_dump_meets_the_disk : (command : Command) (ending : Ending) (bytes : List ℕ) → IsAnswer command ending bytes → IsAtDisk ending → (site : ℕ) × (command ≡ Dump site)
only_a_dump_meets_the_disk Replay ending bytes h at = absurd (replay_at_disk told.Report (schedule_of_text bytes) ending h at)
only_a_dump_meets_the_disk History ending bytes h at = absurd (replay_at_disk told.History (schedule_of_text bytes) ending h at)
only_a_dump_meets_the_disk (Trial number) ending bytes h at = absurd (subst IsAtDisk h.printed at)
only_a_dump_meets_the_disk Check ending bytes h at = absurd (check_at_disk (plan_of_text bytes) ending h at)
only_a_dump_meets_the_disk Plan ending bytes h at = absurd (plan_at_disk (matrix_of_text bytes) ending h at)
only_a_dump_meets_the_disk Audit ending bytes h at = absurd (audit_at_disk (history_of_text bytes) ending h at)
only_a_dump_meets_the_disk Weigh ending bytes h at = absurd (weigh_at_disk (matrix_of_text bytes) bytes ending h at)
only_a_dump_meets_the_disk (Dump site) ending bytes h at = (site, refl)
