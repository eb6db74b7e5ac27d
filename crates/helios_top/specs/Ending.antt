-- The status and the text of each end of a run, and what is written of it.
use Rattle.std.specs.Prelude.{◌≡◌, ℕ, ◌⊎◌, List, [], ◌∷◌, ◌++◌, codes, decimal, Option, Some, None, Result, Ok, Err}
use Rattle.std.specs.declared.alloc.AllocError.{AllocError}
use Rattle.std.specs.Io.KnownBytes.{Appends}
use Rattle.commit_offsets.specs.Lines as plan
use Rattle.rtt_matrix.specs.Lines as matrix
use Rattle.schedule_text.specs.Lines as schedule
use Rattle.history_audit.specs.Lines as history
use Rattle.schedule_replay.specs.Refusals as steps
use Rattle.weighted_plan.specs.Lines as weights
use Rattle.outside_io.specs.Causes.{Rose}
use Rattle.outside_io.specs.Seen.{SinkSeen}
use Rattle.outside_io.specs.Whole.{AppendsPrefix}
use Rattle.helios_top.specs.declared.ending.Refusal.{Refusal}
use Rattle.helios_top.specs.declared.ending.Refusal.TheVariants.{NoSuchSite, OfHistory, OfMatrix, OfPlan, OfReplay, OfSchedule, OfWeights, ShortPair, TooLarge}
use Rattle.helios_top.specs.declared.ending.Ending.{Ending}
use Rattle.helios_top.specs.declared.ending.Ending.TheVariants.{Usage, ReadFault, NoMemory, Refused, DiskFault, JournalRefused, Printed, Judged, Audited}
use Rattle.helios_top.specs.Journals.{journal_line}
use Rattle.helios_top.specs.Verdicts.{audit_line, audit_status, verdict_status, verdict_text}

-- the text, and one line feed
abbrev pub line : List ℕ → List ℕ
line text = text ++ 10 ∷ []

-- the name of a refusal, with its numbers
abbrev pub refusal_text : Refusal → List ℕ
refusal_text TooLarge = codes "too-large"
refusal_text (OfSchedule refusal) = schedule.refusal_text refusal
refusal_text (OfReplay refusal) = steps.refusal_text refusal
refusal_text (OfPlan refusal) = plan.refusal_text refusal
refusal_text (OfMatrix refusal) = matrix.refusal_text refusal
refusal_text (OfHistory refusal) = history.refusal_text refusal
refusal_text (OfWeights refusal) = weights.refusal_text refusal
refusal_text (ShortPair i j) = codes "short-pair " ++ decimal i ++ codes " " ++ decimal j
refusal_text (NoSuchSite site) = codes "no-such-site " ++ decimal site

-- the exit status of each end
abbrev pub status_of : Ending → ℕ
status_of Usage = 1
status_of ReadFault = 2
status_of NoMemory = 4
status_of (Refused refusal) = 5
status_of DiskFault = 6
status_of (JournalRefused refusal) = 8
status_of (Printed text) = 0
status_of (Judged verdict) = verdict_status verdict
status_of (Audited verdict) = audit_status verdict

-- all that is written for each end
unfoldable pub text_of : Ending → List ℕ
text_of Usage = line (codes "usage: helios COMMAND [WORDS]")
text_of ReadFault = line (codes "fault read")
text_of NoMemory = line (codes "fault memory")
text_of (Refused refusal) = line (codes "refused " ++ refusal_text refusal)
text_of DiskFault = line (codes "fault disk")
text_of (JournalRefused refusal) = journal_line refusal
text_of (Printed text) = text
text_of (Judged verdict) = line (verdict_text verdict)
text_of (Audited verdict) = audit_line verdict

-- the end that a command's answer is: want of memory is an end too
abbrev pub end_of : Result Ending AllocError → Ending
end_of (Ok ending) = ending
end_of (Err error) = NoMemory

-- the end is the command's own answer: no fault, no refusal
abbrev pub IsDone : Ending → Type 0
IsDone Usage = ⊥
IsDone ReadFault = ⊥
IsDone NoMemory = ⊥
IsDone (Refused refusal) = ⊥
IsDone DiskFault = ⊥
IsDone (JournalRefused refusal) = ⊥
IsDone (Printed text) = Unit {0}
IsDone (Judged verdict) = Unit {0}
IsDone (Audited verdict) = Unit {0}

-- the end is what the command itself comes to over what it accepts: its own answer, or what it met at the disk
abbrev pub IsOwn : Ending → Type 0
IsOwn Usage = ⊥
IsOwn ReadFault = ⊥
IsOwn NoMemory = ⊥
IsOwn (Refused refusal) = ⊥
IsOwn DiskFault = Unit {0}
IsOwn (JournalRefused refusal) = Unit {0}
IsOwn (Printed text) = Unit {0}
IsOwn (Judged verdict) = Unit {0}
IsOwn (Audited verdict) = Unit {0}

-- the end is what was met at the disk
abbrev pub IsAtDisk : Ending → Type 0
IsAtDisk Usage = ⊥
IsAtDisk ReadFault = ⊥
IsAtDisk NoMemory = ⊥
IsAtDisk (Refused refusal) = ⊥
IsAtDisk DiskFault = Unit {0}
IsAtDisk (JournalRefused refusal) = Unit {0}
IsAtDisk (Printed text) = ⊥
IsAtDisk (Judged verdict) = ⊥
IsAtDisk (Audited verdict) = ⊥

-- the end is the refusal, where there is one, and else the command's own
abbrev pub RefusedOr : Option Refusal → Ending → Type 0 → Type 0
RefusedOr (Some refusal) ending Answers = ending ≡ Refused refusal
RefusedOr None ending Answers = IsOwn ending × Answers

-- the text was written whole, and the status is the one that is due; or a write failed, a front of the text was written, and the
-- status is 3
abbrev pub WroteText : SinkSeen → SinkSeen → List ℕ → ℕ → ℕ → Type 0
WroteText old new text due status =
    ((status ≡ due) × Appends old.taken new.taken text) ⊎ ((status ≡ 3) × Rose old.faults new.faults × AppendsPrefix old.taken new.taken text)

-- so it was with the end's own text and status
abbrev pub Wrote : SinkSeen → SinkSeen → Ending → ℕ → Type 0
Wrote old new ending status = WroteText old new (text_of ending) (status_of ending) status

-- or, where there was no memory for that text, with those of want of memory
abbrev pub Came : SinkSeen → SinkSeen → Ending → ℕ → Type 0
Came old new ending status = Wrote old new ending status ⊎ Wrote old new NoMemory status
