-- `helios dump SITE`: the input is a plan, and what is printed are the records of the log of the site's node, by the journal that the disk stands for.
-- A journal that holds nothing has no records.
use Rattle.std.specs.Prelude.{◌≡◌, ℕ, List, IsOkAnd}
use Rattle.commit_offsets.specs.Reading.{plan_of_text}
use Rattle.helios_model.specs.Plans.{PlanData}
use Rattle.helios_top.specs.declared.words.Command.TheVariants.{Dump}
use Rattle.helios_top.specs.declared.ending.Ending.{Ending}
use Rattle.helios_top.specs.declared.ending.Ending.TheVariants.{Usage, ReadFault, NoMemory, Refused, DiskFault, JournalRefused, Printed, Judged, Audited}
use Rattle.helios_top.specs.Disks.{DumpLeaves}
use Rattle.helios_top.specs.Inputs.{ReadsInput}
use Rattle.helios_top.specs.Journals.{PrintsLog}
use Rattle.helios_top.specs.Outside.{Outside}

-- an own end of a dump: a failed call, a journal that is refused, or the text of a log
abbrev pub IsDumpEnd : PlanData → ℕ → Ending → Type 0
IsDumpEnd plan site Usage = ⊥
IsDumpEnd plan site ReadFault = ⊥
IsDumpEnd plan site NoMemory = ⊥
IsDumpEnd plan site (Refused refusal) = ⊥
IsDumpEnd plan site DiskFault = Unit {0}
IsDumpEnd plan site (JournalRefused refusal) = Unit {0}
IsDumpEnd plan site (Printed text) = PrintsLog plan site text
IsDumpEnd plan site (Judged verdict) = ⊥
IsDumpEnd plan site (Audited verdict) = ⊥

-- what is answered to a text that is a plan
abbrev pub IsDumpAnswer : ℕ → Ending → List ℕ → Type 0
IsDumpAnswer site ending text = IsOkAnd (plan_of_text text) (λ read. IsDumpEnd read.0 site ending)

-- What a run of `dump` does, whatever end it comes to. Which end it is goes by the journal that stood on the disk, and the disk is left before
-- anything is written, also at the statuses 3 and 4.
pub record DumpRun (site : ℕ) (before after : Outside) (ending : Ending) : Type 0 where
  pub reads : ReadsInput (Dump site) before.input after.input ending (IsDumpAnswer site ending)
  pub disk : DumpLeaves site before.input after.input before.disk after.disk ending
  pub bench : after.bench ≡ before.bench
