-- The disk that is left over what a command goes by is the one that is left over the input, and what an end at the disk shows.
use Rattle.std.proofs.Common.{◌≡◌, ◌≢◌, ◌⊎◌, inl, inr, ap, refl, sym, subst, false, ℕ, ◌≤◌, List, [], length, Option, Some, None, Result, Ok, Err, IsOkAnd, arith}
use Rattle.std.specs.Prelude.{IfSome, is_some}
use Rattle.commit_offsets.specs.declared.refusal.PlanRefusal.{PlanRefusal}
use Rattle.commit_offsets.specs.Reading.{plan_of_text}
use Rattle.helios_model.specs.declared.plans.Certificate.{Certificate}
use Rattle.helios_model.specs.Plans.{PlanData}
use Rattle.outside_io.specs.Causes.{Rose, StaysTold}
use Rattle.outside_io.specs.Seen.{SourceSeen}
use Rattle.outside_io.specs.Whole.{IsWholeInput}
use Rattle.helios_top.specs.declared.journal.JournalRefusal.{JournalRefusal}
use Rattle.helios_top.specs.declared.words.Command.{Command}
use Rattle.helios_top.specs.declared.words.Command.TheVariants.{Audit, Check, Dump, History, Plan, Replay, Trial, Weigh}
use Rattle.helios_top.specs.declared.ending.Ending.{Ending}
use Rattle.helios_top.specs.declared.ending.Ending.TheVariants.{Usage, ReadFault, NoMemory, Refused, DiskFault, JournalRefused, Printed, Judged, Audited}
use Rattle.helios_top.specs.Answers.{EndsBy, IsAnswer}
use Rattle.helios_top.specs.Disks.{DiskAfter, DiskOver, DumpLeaves, DumpsPlan, IsBeforeDump, IsDumped}
use Rattle.helios_top.specs.Ending.{IsAtDisk}
use Rattle.helios_top.specs.Inputs.{IsAnsweredInput, ReadWhole, ReadsInput}
use Rattle.helios_top.specs.Journals.{Dumps, RefusesJournal}
use Rattle.helios_top.specs.Outside.{DiskSeen, most_input_bytes}
use Rattle.helios_top.specs.Refusals.{reads_input}
use Rattle.helios_top.proofs.Commands.{only_a_dump_meets_the_disk}

pub disk_left : (command : Command) (old new : SourceSeen) (bytes : List ℕ) (held left : DiskSeen) (ending : Ending) → IsWholeInput old.left new.left bytes
    → length bytes ≤ most_input_bytes → DiskOver command bytes held left ending → DiskAfter (Some command) old new held left ending
disk_left Replay old new bytes held left ending whole fits h = h
disk_left History old new bytes held left ending whole fits h = h
disk_left (Trial number) old new bytes held left ending whole fits h = h
disk_left Check old new bytes held left ending whole fits h = h
disk_left Plan old new bytes held left ending whole fits h = h
disk_left Audit old new bytes held left ending whole fits h = h
disk_left Weigh old new bytes held left ending whole fits h = h
disk_left (Dump site) old new bytes held left ending whole fits (inl before) = inl before
disk_left (Dump site) old new bytes held left ending whole fits (inr dumped) = inr (record { bytes = bytes; is_whole = whole; fits = fits; holds = dumped })

pub disk_unread : (command : Command) (old new : SourceSeen) (held left : DiskSeen) (ending : Ending) → reads_input command ≡ false
    → DiskOver command [] held left ending → DiskAfter (Some command) old new held left ending
disk_unread Replay old new held left ending idle h = absurd (cc)
disk_unread History old new held left ending idle h = absurd (cc)
disk_unread (Trial number) old new held left ending idle h = h
disk_unread Check old new held left ending idle h = absurd (cc)
disk_unread Plan old new held left ending idle h = absurd (cc)
disk_unread Audit old new held left ending idle h = absurd (cc)
disk_unread Weigh old new held left ending idle h = absurd (cc)
disk_unread (Dump site) old new held left ending idle h = absurd (cc)

-- before the command's own end the disk stays as it is
pub disk_before : (command : Command) (old new : SourceSeen) (held : DiskSeen) (ending : Ending) → IsBeforeDump ending → DiskAfter (Some command) old new held held ending
disk_before Replay old new held ending before = refl
disk_before History old new held ending before = refl
disk_before (Trial number) old new held ending before = refl
disk_before Check old new held ending before = refl
disk_before Plan old new held ending before = refl
disk_before Audit old new held ending before = refl
disk_before Weigh old new held ending before = refl
disk_before (Dump site) old new held ending before = inl (before, refl)

-- ---- what the disk after a run shows

-- a dump that looked at the journal
abbrev pub Dumped : Option Command → SourceSeen → SourceSeen → DiskSeen → DiskSeen → Ending → Type 0
Dumped named old new held left ending = (site : ℕ) × (named ≡ Some (Dump site)) × ReadWhole old new (DumpsPlan site held left ending)

-- the disk stays as it is, and a dump came to an end before the journal; or a journal was dumped
abbrev pub DiskCases : Option Command → SourceSeen → SourceSeen → DiskSeen → DiskSeen → Ending → Type 0
DiskCases named old new held left ending = ((left ≡ held) × ((site : ℕ) → named ≡ Some (Dump site) → IsBeforeDump ending)) ⊎ Dumped named old new held left ending

disk_cases : (named : Option Command) (old new : SourceSeen) (held left : DiskSeen) (ending : Ending) → DiskAfter named old new held left ending → DiskCases named old new held left ending
disk_cases None old new held left ending h = inl (h, λ site e. absurd (cc))
disk_cases (Some Replay) old new held left ending h = inl (h, λ site e. absurd (cc))
disk_cases (Some History) old new held left ending h = inl (h, λ site e. absurd (cc))
disk_cases (Some (Trial number)) old new held left ending h = inl (h, λ site e. absurd (cc))
disk_cases (Some Check) old new held left ending h = inl (h, λ site e. absurd (cc))
disk_cases (Some Plan) old new held left ending h = inl (h, λ site e. absurd (cc))
disk_cases (Some Audit) old new held left ending h = inl (h, λ site e. absurd (cc))
disk_cases (Some Weigh) old new held left ending h = inl (h, λ site e. absurd (cc))
disk_cases (Some (Dump site)) old new held left ending (inl before) = inl (before.1, λ other e. before.0)
disk_cases (Some (Dump site)) old new held left ending (inr read) = inr (site, refl, read)

-- what holds of each journal that was dumped holds of the one of the plan that was read
of_dumped : (site : ℕ) (held left : DiskSeen) (ending : Ending) (P : Type 0) (said : Result (PlanData × Certificate) PlanRefusal)
    → IsOkAnd said (λ read. IsDumped read.0 site held left ending) → ((plan : PlanData) → IsDumped plan site held left ending → P) → P
of_dumped site held left ending P (Ok read) h shows = shows read.0 h
of_dumped site held left ending P (Err refusal) h shows = absurd h

pub disk_steady : (named : Option Command) (old new : SourceSeen) (held left : DiskSeen) (ending : Ending) → DiskAfter named old new held left ending → ending ≢ DiskFault
    → left.faults ≡ held.faults
disk_steady named old new held left ending h other = elim (disk_cases named old new held left ending h) [
  | inl same ↦ ap (λ (d : DiskSeen). d.faults) same.0
  | inr read ↦ of_dumped read.0 held left ending (left.faults ≡ held.faults) (plan_of_text read.2.bytes) read.2.holds (λ plan dumped. dumped.steady other)
]

pub disk_later : (named : Option Command) (old new : SourceSeen) (held left : DiskSeen) (ending : Ending) → DiskAfter named old new held left ending → held.faults ≤ left.faults
disk_later named old new held left ending h = elim (disk_cases named old new held left ending h) [
  | inl same ↦ let e : left.faults ≡ held.faults = ap (λ (d : DiskSeen). d.faults) same.0 in omega arith
  | inr read ↦ of_dumped read.0 held left ending (held.faults ≤ left.faults) (plan_of_text read.2.bytes) read.2.holds (λ plan dumped. dumped.later)
]

pub disk_told : (named : Option Command) (old new : SourceSeen) (held left : DiskSeen) (ending : Ending) → DiskAfter named old new held left ending
    → StaysTold held.state left.state
disk_told named old new held left ending h = elim (disk_cases named old new held left ending h) [
  | inl same ↦ ap (λ (d : DiskSeen). is_some d.state) same.0
  | inr read ↦ of_dumped read.0 held left ending (StaysTold held.state left.state) (plan_of_text read.2.bytes) read.2.holds (λ plan dumped. dumped.told)
]

-- ---- an end at the disk

answered_at_disk : (command : Command) (old new : SourceSeen) (ending : Ending) → ReadsInput command old new ending (IsAnswer command ending) → IsAtDisk ending
    → IsAnsweredInput command old new (IsAnswer command ending)
answered_at_disk command old new Usage h at = absurd at
answered_at_disk command old new ReadFault h at = absurd at
answered_at_disk command old new NoMemory h at = absurd at
answered_at_disk command old new (Refused refusal) h at = absurd at
answered_at_disk command old new DiskFault h at = h
answered_at_disk command old new (JournalRefused refusal) h at = h
answered_at_disk command old new (Printed text) h at = absurd at
answered_at_disk command old new (Judged verdict) h at = absurd at
answered_at_disk command old new (Audited verdict) h at = absurd at

-- the command is a dump
at_disk_named : (named : Option Command) (old new : SourceSeen) (ending : Ending) → EndsBy named old new ending → IsAtDisk ending → (site : ℕ) × (named ≡ Some (Dump site))
at_disk_named None old new ending h at = absurd (subst IsAtDisk h at)
at_disk_named (Some command) old new ending h at = elim (answered_at_disk command old new ending h at) [
  | inl read ↦ let is = only_a_dump_meets_the_disk command ending read.1.bytes read.1.holds.1 at in (is.0, ap Some is.1)
  | inr none ↦ let is = only_a_dump_meets_the_disk command ending [] none.1.1 at in (is.0, ap Some is.1)
]

not_before : (ending : Ending) → IsAtDisk ending → IsBeforeDump ending → ⊥
not_before Usage at before = before
not_before ReadFault at before = at
not_before NoMemory at before = at
not_before (Refused refusal) at before = at
not_before DiskFault at before = before
not_before (JournalRefused refusal) at before = before
not_before (Printed text) at before = before
not_before (Judged verdict) at before = before
not_before (Audited verdict) at before = before

-- which looked at the journal
pub at_disk : (named : Option Command) (old new : SourceSeen) (held left : DiskSeen) (ending : Ending) → EndsBy named old new ending → DiskAfter named old new held left ending
    → IsAtDisk ending → Dumped named old new held left ending
at_disk named old new held left ending ends h at = elim (disk_cases named old new held left ending h) [
  | inl same ↦ let is = at_disk_named named old new ending ends at in absurd (not_before ending at (same.1 is.0 is.1))
  | inr read ↦ read
]

pub disk_failed : (named : Option Command) (old new : SourceSeen) (held left : DiskSeen) (ending : Ending) → EndsBy named old new ending → DiskAfter named old new held left ending
    → ending ≡ DiskFault → (site : ℕ) × (named ≡ Some (Dump site)) × Rose held.faults left.faults
disk_failed named old new held left ending ends h e =
    let is : Dumped named old new held left ending = at_disk named old new held left ending ends h (subst IsAtDisk (sym e) tt) in
    (is.0, is.1, of_dumped is.0 held left ending (Rose held.faults left.faults) (plan_of_text is.2.bytes) is.2.holds (λ plan dumped. dumped.cause e))

if_both : {T : Type 0} {P Q : T → Type 0} (state : Option T) → IfSome state P → ((x : T) → P x → Q x) → IfSome state Q
if_both None h f = tt
if_both (Some x) h f = f x h

-- what the bytes on the disk are where the journal is refused
meets : (site : ℕ) (held left : DiskSeen) (ending : Ending) (refusal : JournalRefusal) (said : Result (PlanData × Certificate) PlanRefusal) → ending ≡ JournalRefused refusal
    → IsOkAnd said (λ read. IsDumped read.0 site held left ending) → IsOkAnd said (λ read. IfSome held.state (λ d. RefusesJournal read.0 site d.bytes refusal))
meets site held left ending refusal (Ok read) e h = if_both held.state h.ends (λ d dumps. subst (Dumps read.0 site d.bytes) e dumps)
meets site held left ending refusal (Err r) e h = absurd h

pub journal_refused : (named : Option Command) (old new : SourceSeen) (held left : DiskSeen) (ending : Ending) (refusal : JournalRefusal) → EndsBy named old new ending
    → DiskAfter named old new held left ending → ending ≡ JournalRefused refusal
    → (site : ℕ) × (named ≡ Some (Dump site)) × ReadWhole old new (λ bytes. IsOkAnd (plan_of_text bytes) (λ read. IfSome held.state (λ d. RefusesJournal read.0 site d.bytes refusal)))
journal_refused named old new held left ending refusal ends h e =
    let is : Dumped named old new held left ending = at_disk named old new held left ending ends h (subst IsAtDisk (sym e) tt) in (
      is.0,
      is.1,
      record {
        bytes = is.2.bytes;
        is_whole = is.2.is_whole;
        fits = is.2.fits;
        holds = meets is.0 held left ending refusal (plan_of_text is.2.bytes) e is.2.holds;
      },
    )
