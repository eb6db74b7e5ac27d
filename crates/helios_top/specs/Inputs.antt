-- How a run comes to each of its ends by what its command goes by: one whole input, or nothing.
use Rattle.std.specs.Prelude.{◌≡◌, true, false, ℕ, ◌+◌, ◌≤◌, ◌⊎◌, List, [], length, Some, None}
use Rattle.outside_io.specs.Causes.{Rose}
use Rattle.outside_io.specs.Seen.{SourceSeen}
use Rattle.outside_io.specs.Whole.{IsOverLimit, IsWholeInput, TakesAtMost}
use Rattle.helios_top.specs.declared.words.Command.{Command}
use Rattle.helios_top.specs.declared.ending.Refusal.{Refusal}
use Rattle.helios_top.specs.declared.ending.Refusal.TheVariants.{TooLarge}
use Rattle.helios_top.specs.declared.ending.Ending.{Ending}
use Rattle.helios_top.specs.declared.ending.Ending.TheVariants.{Usage, ReadFault, NoMemory, Refused, DiskFault, JournalRefused, Printed, Judged, Audited}
use Rattle.helios_top.specs.Outside.{most_input_bytes}
use Rattle.helios_top.specs.Refusals.{form_refusal_of, reads_input}

-- the whole input was read, to its end, it is within the limit, and this holds of its bytes
pub record ReadWhole (old new : SourceSeen) (Holds : List ℕ → Type 0) : Type 0 where
  pub bytes : List ℕ
  pub is_whole : IsWholeInput old.left new.left bytes
  pub fits : length bytes ≤ most_input_bytes
  pub holds : Holds bytes

-- this holds of what the command goes by: its whole input, or no bytes where it reads none
abbrev pub GoesBy : Command → SourceSeen → SourceSeen → (List ℕ → Type 0) → Type 0
GoesBy command old new Holds = ((reads_input command ≡ true) × ReadWhole old new Holds) ⊎ ((reads_input command ≡ false) × Holds [])

-- the command reads the input, which has more bytes than a command reads; or this is why the command refuses what it goes by
abbrev pub IsRefusedInput : Command → SourceSeen → SourceSeen → Refusal → Type 0
IsRefusedInput command old new refusal =
    ((refusal ≡ TooLarge) × (reads_input command ≡ true) × IsOverLimit most_input_bytes old.left)
    ⊎ GoesBy command old new (λ bytes. form_refusal_of command bytes ≡ Some refusal)

-- the command accepts what it goes by, and this is what is answered to it
abbrev pub IsAnsweredInput : Command → SourceSeen → SourceSeen → (List ℕ → Type 0) → Type 0
IsAnsweredInput command old new Answers = GoesBy command old new (λ bytes. (form_refusal_of command bytes ≡ None) × Answers bytes)

-- a command that reads the input met a failed read
abbrev pub IsReadFault : Command → SourceSeen → SourceSeen → Type 0
IsReadFault command old new = (reads_input command ≡ true) × Rose old.faults new.faults × TakesAtMost most_input_bytes old.left new.left

-- what shows each end, and how far the input was read by then; `Answers` says what the command's own end is to the bytes
abbrev pub ReadsInput : Command → SourceSeen → SourceSeen → Ending → (List ℕ → Type 0) → Type 0
ReadsInput command old new Usage Answers = ⊥
ReadsInput command old new ReadFault Answers = IsReadFault command old new
ReadsInput command old new NoMemory Answers = TakesAtMost (most_input_bytes + 1) old.left new.left
ReadsInput command old new (Refused refusal) Answers = IsRefusedInput command old new refusal
ReadsInput command old new DiskFault Answers = IsAnsweredInput command old new Answers
ReadsInput command old new (JournalRefused refusal) Answers = IsAnsweredInput command old new Answers
ReadsInput command old new (Printed text) Answers = IsAnsweredInput command old new Answers
ReadsInput command old new (Judged verdict) Answers = IsAnsweredInput command old new Answers
ReadsInput command old new (Audited verdict) Answers = IsAnsweredInput command old new Answers
