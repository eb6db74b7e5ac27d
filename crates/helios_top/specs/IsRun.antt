-- What a run of the program does, from the outside before it to the outside after it: the page to read first.
use Rattle.std.specs.Prelude.{◌≡◌, ◌≢◌, ℕ, ◌≤◌, ◌⊎◌, List, ◌++◌, Some, None, IfSome, IsOkAnd, codes}
use Rattle.std.specs.Io.KnownBytes.{Appends}
use Rattle.commit_offsets.specs.Reading.{plan_of_text}
use Rattle.outside_io.specs.Causes.{Rose}
use Rattle.helios_top.specs.declared.words.Command.{Command}
use Rattle.helios_top.specs.declared.words.Command.TheVariants.{Audit, Check, Dump, History, Plan, Replay, Trial, Weigh}
use Rattle.helios_top.specs.declared.ending.Refusal.{Refusal}
use Rattle.helios_top.specs.declared.journal.JournalRefusal.{JournalRefusal}
use Rattle.helios_top.specs.declared.ending.Ending.{Ending}
use Rattle.helios_top.specs.declared.ending.Ending.TheVariants.{Usage, ReadFault, NoMemory, Refused, DiskFault, JournalRefused}
use Rattle.helios_top.specs.Benches.{BenchAfter}
use Rattle.helios_top.specs.Disks.{DiskAfter}
use Rattle.helios_top.specs.Ending.{Came, IsDone, line, refusal_text, text_of}
use Rattle.helios_top.specs.Inputs.{ReadWhole}
use Rattle.helios_top.specs.Journals.{RefusesJournal, journal_line}
use Rattle.helios_top.specs.Outside.{IsLater, Outside}
use Rattle.helios_top.specs.Refusals.{refusal_of}
use Rattle.helios_top.specs.Runs.Audit.{AuditRun}
use Rattle.helios_top.specs.Runs.Check.{CheckRun}
use Rattle.helios_top.specs.Runs.Dump.{DumpRun}
use Rattle.helios_top.specs.Runs.History.{HistoryRun}
use Rattle.helios_top.specs.Runs.Plan.{PlanRun}
use Rattle.helios_top.specs.Runs.Replay.{ReplayRun}
use Rattle.helios_top.specs.Runs.Trial.{TrialRun}
use Rattle.helios_top.specs.Runs.Weigh.{WeighRun}
use Rattle.helios_top.specs.Words.{command_of}

-- exactly this was written
abbrev pub Writes : Outside → Outside → List ℕ → Type 0
Writes before after text = Appends before.output.taken after.output.taken text

-- the whole input is a plan, and the bytes on the disk are refused as the journal of this site of it
abbrev pub MeetsRefusal : Outside → Outside → ℕ → JournalRefusal → Type 0
MeetsRefusal before after site refusal = ReadWhole before.input after.input
    (λ bytes. IsOkAnd (plan_of_text bytes) (λ read. IfSome before.disk.state (λ d. RefusesJournal read.0 site d.bytes refusal)))

pub record IsRun (words : List (List ℕ)) (before after : Outside) (status : ℕ) : Type 0 where
  -- the true end; written was its text, or the line of status 4 where there was no memory for that, or, with status 3, a front of either
  pub ending : Ending
  pub came : Came before.output after.output ending status
  pub later : IsLater before after
  pub known : (status ≤ 6) ⊎ (status ≡ 8) ⊎ (status ≡ 9)
  -- 0: the command's own answer
  pub answered : status ≡ 0 → IsDone ending × Writes before after (text_of ending)
  pub complete : IfSome before.input.left (λ bytes. (command : Command) → command_of words ≡ Some command → refusal_of command bytes ≡ None
      → ¬ Rose before.input.faults after.input.faults → ¬ Rose before.disk.faults after.disk.faults
      → IsDone ending ⊎ (ending ≡ NoMemory) ⊎ ((refusal : JournalRefusal) × (ending ≡ JournalRefused refusal)))
  -- 1: only where the words name no command, and for such words that is the end
  pub usage : status ≡ 1 → (command_of words ≡ None) × Writes before after (line (codes "usage: helios COMMAND [WORDS]"))
  pub usage_only : command_of words ≡ None → ending ≡ Usage
  -- 2: only where a read failed; where the end is another, none failed
  pub read_fault : status ≡ 2 → Rose before.input.faults after.input.faults × Writes before after (line (codes "fault read"))
  pub no_read_failed : ending ≢ ReadFault → after.input.faults ≡ before.input.faults
  -- 3: only where a write failed; at every other status none failed
  pub write_fault : status ≡ 3 → Rose before.output.faults after.output.faults
  pub no_write_failed : status ≢ 3 → after.output.faults ≡ before.output.faults
  -- 4: for want of memory, for the end or for its line; it may come anywhere
  pub no_memory : status ≡ 4 → Writes before after (line (codes "fault memory"))
  -- 5: by the first rule that the input breaks, and for such an input that is the end, but for a read fault and want of memory
  pub refused : status ≡ 5 → (command : Command) × (refusal : Refusal) × (command_of words ≡ Some command)
      × IfSome before.input.left (λ bytes. refusal_of command bytes ≡ Some refusal) × Writes before after (line (codes "refused " ++ refusal_text refusal))
  pub refused_only : IfSome before.input.left (λ bytes. (command : Command) → command_of words ≡ Some command → (refusal : Refusal)
      → refusal_of command bytes ≡ Some refusal → (ending ≡ Refused refusal) ⊎ (ending ≡ ReadFault) ⊎ (ending ≡ NoMemory))
  -- 6: only where a call on the disk failed, which only a dump makes; where the end is another, none failed
  pub disk_fault : status ≡ 6 → (site : ℕ) × (command_of words ≡ Some (Dump site)) × Rose before.disk.faults after.disk.faults
      × Writes before after (line (codes "fault disk"))
  pub no_disk_failed : ending ≢ DiskFault → after.disk.faults ≡ before.disk.faults
  -- 8: only where the journal that a dump reads is damaged at that place, or is of another plan or of another site
  pub journal : status ≡ 8 → (site : ℕ) × (refusal : JournalRefusal) × (command_of words ≡ Some (Dump site)) × (ending ≡ JournalRefused refusal)
      × MeetsRefusal before after site refusal × Writes before after (journal_line refusal)
  -- 9: the plan is not shown to be optimal, or the history is not serial
  pub denied : status ≡ 9 → ((command_of words ≡ Some Check) ⊎ (command_of words ≡ Some Audit)) × Writes before after (text_of ending)
  -- the bench is left before anything is written: what it is goes by the true end, also at the statuses 3 and 4
  pub bench : BenchAfter (command_of words) before.input after.input before.bench after.bench ending
  -- the disk is as before, but for a dump
  pub disk : DiskAfter (command_of words) before.input after.input before.disk after.disk ending
  -- each command
  pub replay : command_of words ≡ Some Replay → ReplayRun before after ending
  pub history : command_of words ≡ Some History → HistoryRun before after ending
  pub trial : (number : ℕ) → command_of words ≡ Some (Trial number) → TrialRun number before after ending
  pub check : command_of words ≡ Some Check → CheckRun before after ending
  pub plan : command_of words ≡ Some Plan → PlanRun before after ending
  pub audit : command_of words ≡ Some Audit → AuditRun before after ending
  pub weigh : command_of words ≡ Some Weigh → WeighRun before after ending
  pub dump : (site : ℕ) → command_of words ≡ Some (Dump site) → DumpRun site before after ending
