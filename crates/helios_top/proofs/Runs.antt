-- What the end of a run, and what was written of it, say of each status.
use Rattle.std.proofs.Common.{◌≡◌, ◌≢◌, true, ℕ, ◌≤◌, ◌⊎◌, inl, inr, List, [], ◌++◌, Option, Some, None, IfSome, codes, refl, sym, ◌∙◌, ap, subst, arith}
use Rattle.std.specs.Io.KnownBytes.{Appends}
use Rattle.outside_io.specs.Causes.{Rose}
use Rattle.outside_io.specs.Seen.{SourceSeen, SinkSeen}
use Rattle.history_audit.specs.declared.verdict.AuditVerdict.{AuditVerdict}
use Rattle.history_audit.specs.declared.verdict.AuditVerdict.TheVariants as audits
use Rattle.plan_certificate.specs.declared.verdict.Verdict.{Verdict}
use Rattle.plan_certificate.specs.declared.verdict.Verdict.TheVariants as verdicts
use Rattle.helios_top.specs.declared.words.Command.{Command}
use Rattle.helios_top.specs.declared.words.Command.TheVariants.{Audit, Check, Dump, History, Plan, Replay, Trial, Weigh}
use Rattle.helios_top.specs.declared.ending.Refusal.{Refusal}
use Rattle.helios_top.specs.declared.journal.JournalRefusal.{JournalRefusal}
use Rattle.helios_top.specs.declared.ending.Ending.{Ending}
use Rattle.helios_top.specs.declared.ending.Ending.TheVariants.{Usage, ReadFault, NoMemory, Refused, DiskFault, JournalRefused, Printed, Judged, Audited}
use Rattle.helios_top.specs.Answers.{EndsBy, IsAnswer}
use Rattle.helios_top.specs.Benches.{BenchAfter, Leaves}
use Rattle.helios_top.specs.Disks.{DiskAfter}
use Rattle.helios_top.specs.Ending.{Came, IsDone, RefusedOr, line, refusal_text, status_of, text_of}
use Rattle.helios_top.specs.Inputs.{IsAnsweredInput, IsRefusedInput, ReadsInput}
use Rattle.helios_top.specs.IsRun.{IsRun, Writes}
use Rattle.helios_top.specs.Journals.{journal_line}
use Rattle.helios_top.specs.Outside.{DiskSeen, IsLater, Outside}
use Rattle.helios_top.specs.Refusals.{leaves_input, refusal_of}
use Rattle.helios_top.specs.Runs.Trial.{IsTrialAnswer, TrialEnds}
use Rattle.helios_top.specs.Verdicts.{audit_status, verdict_status}
use Rattle.helios_top.specs.Words.{command_of}
use Rattle.helios_top.proofs.Commands.{only_audit_audits, only_check_judges}
use Rattle.helios_top.proofs.Disks.{disk_failed, disk_steady, journal_refused}
use Rattle.helios_top.proofs.Inputs.{done_or_no_memory, if_told, refused_is_own, refused_or_fault}

-- ---- which end has each status

verdict_is_0_or_9 : (verdict : Verdict) → (verdict_status verdict ≡ 0) ⊎ (verdict_status verdict ≡ 9)
verdict_is_0_or_9 (verdicts.Optimal total) = inl refl
verdict_is_0_or_9 (verdicts.Short i j) = inr refl
verdict_is_0_or_9 (verdicts.NoPairing i) = inr refl
verdict_is_0_or_9 (verdicts.ValueDiffers given value) = inr refl

audit_is_0_or_9 : (verdict : AuditVerdict) → (audit_status verdict ≡ 0) ⊎ (audit_status verdict ≡ 9)
audit_is_0_or_9 (audits.Serial count) = inl refl
audit_is_0_or_9 (audits.NotSerial place key read current) = inr refl

is_0 : (ending : Ending) → status_of ending ≡ 0 → IsDone ending
is_0 Usage e = absurd (omega arith)
is_0 ReadFault e = absurd (omega arith)
is_0 NoMemory e = absurd (omega arith)
is_0 (Refused refusal) e = absurd (omega arith)
is_0 DiskFault e = absurd (omega arith)
is_0 (JournalRefused refusal) e = absurd (omega arith)
is_0 (Printed text) e = tt
is_0 (Judged verdict) e = tt
is_0 (Audited verdict) e = tt

-- the end with a status is this one, where no verdict has the status
is_1 : (ending : Ending) → status_of ending ≡ 1 → ending ≡ Usage
is_1 Usage e = refl
is_1 ReadFault e = absurd (omega arith)
is_1 NoMemory e = absurd (omega arith)
is_1 (Refused refusal) e = absurd (omega arith)
is_1 DiskFault e = absurd (omega arith)
is_1 (JournalRefused refusal) e = absurd (omega arith)
is_1 (Printed text) e = absurd (omega arith)
is_1 (Judged verdict) e = elim (verdict_is_0_or_9 verdict) [ inl zero ↦ absurd (omega arith) | inr nine ↦ absurd (omega arith) ]
is_1 (Audited verdict) e = elim (audit_is_0_or_9 verdict) [ inl zero ↦ absurd (omega arith) | inr nine ↦ absurd (omega arith) ]

is_2 : (ending : Ending) → status_of ending ≡ 2 → ending ≡ ReadFault
is_2 Usage e = absurd (omega arith)
is_2 ReadFault e = refl
is_2 NoMemory e = absurd (omega arith)
is_2 (Refused refusal) e = absurd (omega arith)
is_2 DiskFault e = absurd (omega arith)
is_2 (JournalRefused refusal) e = absurd (omega arith)
is_2 (Printed text) e = absurd (omega arith)
is_2 (Judged verdict) e = elim (verdict_is_0_or_9 verdict) [ inl zero ↦ absurd (omega arith) | inr nine ↦ absurd (omega arith) ]
is_2 (Audited verdict) e = elim (audit_is_0_or_9 verdict) [ inl zero ↦ absurd (omega arith) | inr nine ↦ absurd (omega arith) ]

is_4 : (ending : Ending) → status_of ending ≡ 4 → ending ≡ NoMemory
is_4 Usage e = absurd (omega arith)
is_4 ReadFault e = absurd (omega arith)
is_4 NoMemory e = refl
is_4 (Refused refusal) e = absurd (omega arith)
is_4 DiskFault e = absurd (omega arith)
is_4 (JournalRefused refusal) e = absurd (omega arith)
is_4 (Printed text) e = absurd (omega arith)
is_4 (Judged verdict) e = elim (verdict_is_0_or_9 verdict) [ inl zero ↦ absurd (omega arith) | inr nine ↦ absurd (omega arith) ]
is_4 (Audited verdict) e = elim (audit_is_0_or_9 verdict) [ inl zero ↦ absurd (omega arith) | inr nine ↦ absurd (omega arith) ]

is_5 : (ending : Ending) → status_of ending ≡ 5 → (refusal : Refusal) × (ending ≡ Refused refusal)
is_5 Usage e = absurd (omega arith)
is_5 ReadFault e = absurd (omega arith)
is_5 NoMemory e = absurd (omega arith)
is_5 (Refused refusal) e = (refusal, refl)
is_5 DiskFault e = absurd (omega arith)
is_5 (JournalRefused refusal) e = absurd (omega arith)
is_5 (Printed text) e = absurd (omega arith)
is_5 (Judged verdict) e = elim (verdict_is_0_or_9 verdict) [ inl zero ↦ absurd (omega arith) | inr nine ↦ absurd (omega arith) ]
is_5 (Audited verdict) e = elim (audit_is_0_or_9 verdict) [ inl zero ↦ absurd (omega arith) | inr nine ↦ absurd (omega arith) ]

is_6 : (ending : Ending) → status_of ending ≡ 6 → ending ≡ DiskFault
is_6 Usage e = absurd (omega arith)
is_6 ReadFault e = absurd (omega arith)
is_6 NoMemory e = absurd (omega arith)
is_6 (Refused refusal) e = absurd (omega arith)
is_6 DiskFault e = refl
is_6 (JournalRefused refusal) e = absurd (omega arith)
is_6 (Printed text) e = absurd (omega arith)
is_6 (Judged verdict) e = elim (verdict_is_0_or_9 verdict) [ inl zero ↦ absurd (omega arith) | inr nine ↦ absurd (omega arith) ]
is_6 (Audited verdict) e = elim (audit_is_0_or_9 verdict) [ inl zero ↦ absurd (omega arith) | inr nine ↦ absurd (omega arith) ]

is_8 : (ending : Ending) → status_of ending ≡ 8 → (refusal : JournalRefusal) × (ending ≡ JournalRefused refusal)
is_8 Usage e = absurd (omega arith)
is_8 ReadFault e = absurd (omega arith)
is_8 NoMemory e = absurd (omega arith)
is_8 (Refused refusal) e = absurd (omega arith)
is_8 DiskFault e = absurd (omega arith)
is_8 (JournalRefused refusal) e = (refusal, refl)
is_8 (Printed text) e = absurd (omega arith)
is_8 (Judged verdict) e = elim (verdict_is_0_or_9 verdict) [ inl zero ↦ absurd (omega arith) | inr nine ↦ absurd (omega arith) ]
is_8 (Audited verdict) e = elim (audit_is_0_or_9 verdict) [ inl zero ↦ absurd (omega arith) | inr nine ↦ absurd (omega arith) ]

is_9 : (ending : Ending) → status_of ending ≡ 9 → ((verdict : Verdict) × (ending ≡ Judged verdict)) ⊎ ((verdict : AuditVerdict) × (ending ≡ Audited verdict))
is_9 Usage e = absurd (omega arith)
is_9 ReadFault e = absurd (omega arith)
is_9 NoMemory e = absurd (omega arith)
is_9 (Refused refusal) e = absurd (omega arith)
is_9 DiskFault e = absurd (omega arith)
is_9 (JournalRefused refusal) e = absurd (omega arith)
is_9 (Printed text) e = absurd (omega arith)
is_9 (Judged verdict) e = inl (verdict, refl)
is_9 (Audited verdict) e = inr (verdict, refl)

-- a status that a run may end with
abbrev Known : ℕ → Type 0
Known status = (status ≤ 6) ⊎ (status ≡ 8) ⊎ (status ≡ 9)

-- the status of an end is none of a write fault
due_status : (ending : Ending) → Known (status_of ending) × (status_of ending ≢ 3)
due_status Usage = (inl (omega arith), λ e. omega arith)
due_status ReadFault = (inl (omega arith), λ e. omega arith)
due_status NoMemory = (inl (omega arith), λ e. omega arith)
due_status (Refused refusal) = (inl (omega arith), λ e. omega arith)
due_status DiskFault = (inl (omega arith), λ e. omega arith)
due_status (JournalRefused refusal) = (inr (inl refl), λ e. omega arith)
due_status (Printed text) = (inl (omega arith), λ e. omega arith)
due_status (Judged verdict) = elim (verdict_is_0_or_9 verdict) [
  | inl zero ↦ (inl (omega arith), λ e. omega arith)
  | inr nine ↦ (inr (inr nine), λ e. omega arith)
]
due_status (Audited verdict) = elim (audit_is_0_or_9 verdict) [
  | inl zero ↦ (inl (omega arith), λ e. omega arith)
  | inr nine ↦ (inr (inr nine), λ e. omega arith)
]

-- ---- the text of each of these

usage_text : text_of Usage ≡ line (codes "usage: helios COMMAND [WORDS]")
unfolding text_of
usage_text = refl

read_fault_text : text_of ReadFault ≡ line (codes "fault read")
unfolding text_of
read_fault_text = refl

no_memory_text : text_of NoMemory ≡ line (codes "fault memory")
unfolding text_of
no_memory_text = refl

disk_fault_text : text_of DiskFault ≡ line (codes "fault disk")
unfolding text_of
disk_fault_text = refl

journal_text : (refusal : JournalRefusal) → text_of (JournalRefused refusal) ≡ journal_line refusal
unfolding text_of
journal_text refusal = refl

refused_text : (refusal : Refusal) → text_of (Refused refusal) ≡ line (codes "refused " ++ refusal_text refusal)
unfolding text_of
refused_text refusal = refl

-- ---- what was written, by the status

-- a status of no fault is that of the end, whose text was written whole
pub record IsDue (old new : SinkSeen) (ending : Ending) (status : ℕ) : Type 0 where
  pub status_is : status_of ending ≡ status
  pub written : Appends old.taken new.taken (text_of ending)

due : (old new : SinkSeen) (ending : Ending) (status : ℕ) → Came old new ending status → status ≢ 3 → status ≢ 4 → IsDue old new ending status
due old new ending status (inl (inl own)) three four = record { status_is = sym own.0; written = own.1 }
due old new ending status (inl (inr front)) three four = absurd (three front.0)
due old new ending status (inr (inl none)) three four = absurd (four none.0)
due old new ending status (inr (inr front)) three four = absurd (three front.0)

known_status : (old new : SinkSeen) (ending : Ending) (status : ℕ) → Came old new ending status → Known status
known_status old new ending status (inl (inl own)) = subst Known (sym own.0) (due_status ending).0
known_status old new ending status (inl (inr front)) = let three : status ≡ 3 = front.0 in inl (omega arith)
known_status old new ending status (inr (inl none)) = let four : status ≡ 4 = none.0 in inl (omega arith)
known_status old new ending status (inr (inr front)) = let three : status ≡ 3 = front.0 in inl (omega arith)

write_failed : (old new : SinkSeen) (ending : Ending) (status : ℕ) → Came old new ending status → status ≡ 3 → Rose old.faults new.faults
write_failed old new ending status (inl (inl own)) e = absurd ((due_status ending).1 (sym own.0 ∙ e))
write_failed old new ending status (inl (inr front)) e = front.1
write_failed old new ending status (inr (inl none)) e = let four : status ≡ 4 = none.0 in absurd (omega arith)
write_failed old new ending status (inr (inr front)) e = front.1

memory_line : (old new : SinkSeen) (ending : Ending) (status : ℕ) → Came old new ending status → status ≡ 4 → Appends old.taken new.taken (line (codes "fault memory"))
memory_line old new ending status (inl (inl own)) e = subst (Appends old.taken new.taken) (ap text_of (is_4 ending (sym own.0 ∙ e)) ∙ no_memory_text) own.1
memory_line old new ending status (inl (inr front)) e = let three : status ≡ 3 = front.0 in absurd (omega arith)
memory_line old new ending status (inr (inl none)) e = subst (Appends old.taken new.taken) no_memory_text none.1
memory_line old new ending status (inr (inr front)) e = let three : status ≡ 3 = front.0 in absurd (omega arith)

-- ---- what the words and the input show

no_command : (named : Option Command) (old new : SourceSeen) (ending : Ending) → EndsBy named old new ending → named ≡ None → ending ≡ Usage
no_command None old new ending h e = h
no_command (Some command) old new ending h e = cc

no_words : (named : Option Command) (old new : SourceSeen) (ending : Ending) → EndsBy named old new ending → ending ≡ Usage → named ≡ None
no_words None old new ending h e = refl
no_words (Some command) old new ending h e = let usage : ReadsInput command old new Usage (IsAnswer command Usage) = subst (λ (end : Ending). EndsBy (Some command) old new end) e h in absurd usage

read_failed : (named : Option Command) (old new : SourceSeen) (ending : Ending) → EndsBy named old new ending → ending ≡ ReadFault → Rose old.faults new.faults
read_failed None old new ending h e = cc
read_failed (Some command) old new ending h e = (subst (λ (end : Ending). EndsBy (Some command) old new end) e h).1

-- the command that the words name, and what its run says
named_ends : (named : Option Command) (command : Command) (old new : SourceSeen) (ending : Ending) → EndsBy named old new ending → named ≡ Some command
    → ReadsInput command old new ending (IsAnswer command ending)
named_ends named command old new ending h e = subst (λ (n : Option Command). EndsBy n old new ending) e h

named_leaves : (named : Option Command) (command : Command) (before after : Outside) (ending : Ending) → BenchAfter named before.input after.input before.bench after.bench ending
    → named ≡ Some command → Leaves command before.input after.input before.bench after.bench ending
named_leaves named command before after ending h e = subst (λ (n : Option Command). BenchAfter n before.input after.input before.bench after.bench ending) e h

named_disk : (named : Option Command) (command : Command) (before after : Outside) (ending : Ending) → DiskAfter named before.input after.input before.disk after.disk ending
    → named ≡ Some command → DiskAfter (Some command) before.input after.input before.disk after.disk ending
named_disk named command before after ending h e = subst (λ (n : Option Command). DiskAfter n before.input after.input before.disk after.disk ending) e h

refused_by : (named : Option Command) (old new : SourceSeen) (ending : Ending) (refusal : Refusal) → EndsBy named old new ending → ending ≡ Refused refusal
    → (command : Command) × (named ≡ Some command) × IfSome old.left (λ bytes. refusal_of command bytes ≡ Some refusal)
refused_by None old new ending refusal h e = cc
refused_by (Some command) old new ending refusal h e =
    let is : IsRefusedInput command old new refusal = subst (λ (end : Ending). EndsBy (Some command) old new end) e h in
    (command, refl, refused_is_own command old new refusal is)

judged_by : (named : Option Command) (old new : SourceSeen) (ending : Ending) (verdict : Verdict) → EndsBy named old new ending → ending ≡ Judged verdict → named ≡ Some Check
judged_by None old new ending verdict h e = cc
judged_by (Some command) old new ending verdict h e =
    let is : IsAnsweredInput command old new (IsAnswer command (Judged verdict)) = subst (λ (end : Ending). EndsBy (Some command) old new end) e h in
    ap Some (elim is [
      | inl read ↦ only_check_judges command verdict read.1.bytes read.1.holds.1
      | inr none ↦ only_check_judges command verdict [] none.1.1
    ])

audited_by : (named : Option Command) (old new : SourceSeen) (ending : Ending) (verdict : AuditVerdict) → EndsBy named old new ending → ending ≡ Audited verdict → named ≡ Some Audit
audited_by None old new ending verdict h e = cc
audited_by (Some command) old new ending verdict h e =
    let is : IsAnsweredInput command old new (IsAnswer command (Audited verdict)) = subst (λ (end : Ending). EndsBy (Some command) old new end) e h in
    ap Some (elim is [
      | inl read ↦ only_audit_audits command verdict read.1.bytes read.1.holds.1
      | inr none ↦ only_audit_audits command verdict [] none.1.1
    ])

denied_by : (named : Option Command) (old new : SourceSeen) (ending : Ending) → EndsBy named old new ending → status_of ending ≡ 9 → (named ≡ Some Check) ⊎ (named ≡ Some Audit)
denied_by named old new ending h e = elim (is_9 ending e) [
  | inl judged ↦ inl (judged_by named old new ending judged.0 h judged.1)
  | inr audited ↦ inr (audited_by named old new ending audited.0 h audited.1)
]

-- a trial goes by its number alone
trial_ends : (number : ℕ) (old new : SourceSeen) (ending : Ending) → ReadsInput (Trial number) old new ending (IsAnswer (Trial number) ending) → TrialEnds number ending
trial_ends number old new Usage h = absurd h
trial_ends number old new ReadFault h = let idle = h.0 in absurd (cc)
trial_ends number old new NoMemory h = inr refl
trial_ends number old new (Refused refusal) (inl large) = let idle = large.1 in absurd (cc)
trial_ends number old new (Refused refusal) (inr (inl read)) = let idle = read.0 in absurd (cc)
trial_ends number old new (Refused refusal) (inr (inr none)) =
    inl (subst (λ (found : Option Refusal). RefusedOr found (Refused refusal) (IsTrialAnswer number (Refused refusal))) (sym none.1) refl)
trial_ends number old new DiskFault (inl read) = let idle = read.0 in absurd (cc)
trial_ends number old new DiskFault (inr none) = let e = none.1.1.printed in absurd (cc)
trial_ends number old new (JournalRefused refusal) (inl read) = let idle = read.0 in absurd (cc)
trial_ends number old new (JournalRefused refusal) (inr none) = let e = none.1.1.printed in absurd (cc)
trial_ends number old new (Printed text) (inl read) = let idle = read.0 in absurd (cc)
trial_ends number old new (Printed text) (inr none) =
    inl (subst (λ (found : Option Refusal). RefusedOr found (Printed text) (IsTrialAnswer number (Printed text))) (sym none.1.0) (tt, none.1.1))
trial_ends number old new (Judged verdict) (inl read) = let idle = read.0 in absurd (cc)
trial_ends number old new (Judged verdict) (inr none) = let e = none.1.1.printed in absurd (cc)
trial_ends number old new (Audited verdict) (inl read) = let idle = read.0 in absurd (cc)
trial_ends number old new (Audited verdict) (inr none) = let e = none.1.1.printed in absurd (cc)

-- ---- the whole page

pub is_run : (words : List (List ℕ)) (before after : Outside) (ending : Ending) (status : ℕ) → EndsBy (command_of words) before.input after.input ending
    → (ending ≢ ReadFault → after.input.faults ≡ before.input.faults) → Came before.output after.output ending status
    → (status ≢ 3 → after.output.faults ≡ before.output.faults) → IsLater before after
    → DiskAfter (command_of words) before.input after.input before.disk after.disk ending
    → BenchAfter (command_of words) before.input after.input before.bench after.bench ending
    → (leaves_input (command_of words) ≡ true → after.input ≡ before.input) → IsRun words before after status
is_run words before after ending status ends reads came writes later disk leaves unread = record {
  ending = ending;
  came = came;
  later = later;
  known = known_status before.output after.output ending status came;
  answered = λ e. let d = due before.output after.output ending status came (λ three. omega arith) (λ four. omega arith) in (is_0 ending (d.status_is ∙ e), d.written);
  complete = if_told before.input.left _ (λ bytes told command named e still sound.
      done_or_no_memory command before.input after.input ending (IsAnswer command ending) bytes told (named_ends (command_of words) command before.input after.input ending ends named) e still
      (λ failed. sound (disk_failed (command_of words) before.input after.input before.disk after.disk ending ends disk failed).2));
  usage = λ e. let d = due before.output after.output ending status came (λ three. omega arith) (λ four. omega arith) in
      let is = is_1 ending (d.status_is ∙ e) in
      (no_words (command_of words) before.input after.input ending ends is, subst (Writes before after) (ap text_of is ∙ usage_text) d.written);
  usage_only = no_command (command_of words) before.input after.input ending ends;
  read_fault = λ e. let d = due before.output after.output ending status came (λ three. omega arith) (λ four. omega arith) in
      let is = is_2 ending (d.status_is ∙ e) in
      (read_failed (command_of words) before.input after.input ending ends is, subst (Writes before after) (ap text_of is ∙ read_fault_text) d.written);
  no_read_failed = reads;
  write_fault = write_failed before.output after.output ending status came;
  no_write_failed = writes;
  no_memory = memory_line before.output after.output ending status came;
  refused = λ e. let d = due before.output after.output ending status came (λ three. omega arith) (λ four. omega arith) in
      let is = is_5 ending (d.status_is ∙ e) in
      let by = refused_by (command_of words) before.input after.input ending is.0 ends is.1 in
      (by.0, is.0, by.1, by.2, subst (Writes before after) (ap text_of is.1 ∙ refused_text is.0) d.written);
  refused_only = if_told before.input.left _ (λ bytes told command named refusal e.
      refused_or_fault command before.input after.input ending (IsAnswer command ending) bytes refusal told (named_ends (command_of words) command before.input after.input ending ends named) e);
  disk_fault = λ e. let d = due before.output after.output ending status came (λ three. omega arith) (λ four. omega arith) in
      let is = is_6 ending (d.status_is ∙ e) in
      let by = disk_failed (command_of words) before.input after.input before.disk after.disk ending ends disk is in
      (by.0, by.1, by.2, subst (Writes before after) (ap text_of is ∙ disk_fault_text) d.written);
  no_disk_failed = disk_steady (command_of words) before.input after.input before.disk after.disk ending disk;
  journal = λ e. let d = due before.output after.output ending status came (λ three. omega arith) (λ four. omega arith) in
      let is = is_8 ending (d.status_is ∙ e) in
      let by = journal_refused (command_of words) before.input after.input before.disk after.disk ending is.0 ends disk is.1 in
      (by.0, is.0, by.1, is.1, by.2, subst (Writes before after) (ap text_of is.1 ∙ journal_text is.0) d.written);
  denied = λ e. let d = due before.output after.output ending status came (λ three. omega arith) (λ four. omega arith) in
      (denied_by (command_of words) before.input after.input ending ends (d.status_is ∙ e), d.written);
  bench = leaves;
  disk = disk;
  replay = λ e. record {
    reads = named_ends (command_of words) Replay before.input after.input ending ends e;
    bench = named_leaves (command_of words) Replay before after ending leaves e;
    disk = named_disk (command_of words) Replay before after ending disk e;
  };
  history = λ e. record {
    reads = named_ends (command_of words) History before.input after.input ending ends e;
    bench = named_leaves (command_of words) History before after ending leaves e;
    disk = named_disk (command_of words) History before after ending disk e;
  };
  trial = λ number e. record {
    unread = unread (ap leaves_input e);
    ends = trial_ends number before.input after.input ending (named_ends (command_of words) (Trial number) before.input after.input ending ends e);
    bench = named_leaves (command_of words) (Trial number) before after ending leaves e;
    disk = named_disk (command_of words) (Trial number) before after ending disk e;
  };
  check = λ e. record {
    reads = named_ends (command_of words) Check before.input after.input ending ends e;
    bench = named_leaves (command_of words) Check before after ending leaves e;
    disk = named_disk (command_of words) Check before after ending disk e;
  };
  plan = λ e. record {
    reads = named_ends (command_of words) Plan before.input after.input ending ends e;
    bench = named_leaves (command_of words) Plan before after ending leaves e;
    disk = named_disk (command_of words) Plan before after ending disk e;
  };
  audit = λ e. record {
    reads = named_ends (command_of words) Audit before.input after.input ending ends e;
    bench = named_leaves (command_of words) Audit before after ending leaves e;
    disk = named_disk (command_of words) Audit before after ending disk e;
  };
  dump = λ site e. record {
    reads = named_ends (command_of words) (Dump site) before.input after.input ending ends e;
    disk = named_disk (command_of words) (Dump site) before after ending disk e;
    bench = named_leaves (command_of words) (Dump site) before after ending leaves e;
  };
  weigh = λ e. record {
    reads = named_ends (command_of words) Weigh before.input after.input ending ends e;
    bench = named_leaves (command_of words) Weigh before after ending leaves e;
    disk = named_disk (command_of words) Weigh before after ending disk e;
  };
}
