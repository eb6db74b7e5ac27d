-- What a dump of the journal on a disk comes to, and what each command leaves of the disk.
use Rattle.std.specs.Prelude.{◌≡◌, ◌≢◌, ◌⊎◌, ℕ, ◌<◌, ◌≤◌, List, length, Option, Some, None, IfSome, IsOkAnd, option_map}
use Rattle.commit_offsets.specs.Reading.{plan_of_text}
use Rattle.disk_store.specs.Disk.{DiskState, IsAtRest, IsImage, at_rest}
use Rattle.disk_store.specs.Moments.{AtEachMoment}
use Rattle.disk_store.specs.Outlook.{never}
use Rattle.helios_model.specs.Plans.{IsAccepted, PlanData, count_of}
use Rattle.node_host.specs.Journals.{KeepsBatches}
use Rattle.node_journal.specs.Devices.{SameRoom, StaysQuiet}
use Rattle.node_journal.specs.Opening.{IsUnwritten, opened}
use Rattle.outside_io.specs.Causes.{Rose, StaysTold}
use Rattle.outside_io.specs.Seen.{SourceSeen}
use Rattle.helios_top.specs.declared.words.Command.{Command}
use Rattle.helios_top.specs.declared.words.Command.TheVariants.{Audit, Check, Dump, History, Plan, Replay, Trial, Weigh}
use Rattle.helios_top.specs.declared.ending.Ending.{Ending}
use Rattle.helios_top.specs.declared.ending.Ending.TheVariants.{Usage, ReadFault, NoMemory, Refused, DiskFault, JournalRefused, Printed, Judged, Audited}
use Rattle.helios_top.specs.Inputs.{ReadWhole}
use Rattle.helios_top.specs.Journals.{Dumps, IsDecided, PrintsLog}
use Rattle.helios_top.specs.Outside.{DiskSeen}

-- at every moment of the calls each state of the disk has P
abbrev pub EachMoment : DiskSeen → DiskSeen → (DiskState → Type 0) → Type 0
EachMoment held left P = AtEachMoment held.past left.past left.state P

-- the journal of this site of this plan was dumped from the disk, to this end
pub record IsDumped (plan : PlanData) (site : ℕ) (held left : DiskSeen) (ending : Ending) : Type 0 where
  pub accepted : IsAccepted plan
  pub here : site < count_of plan
  -- the bytes that the disk reads as decide the end, in both directions
  pub ends : IfSome held.state (λ d. Dumps plan site d.bytes ending)
  pub decided : IfSome held.state (λ d. (given : Ending) → Dumps plan site d.bytes given → IsDecided given
      → (ending ≡ given) ⊎ (ending ≡ DiskFault) ⊎ (ending ≡ NoMemory))
  -- whatever the disk tells, a text is that of a log which some batches of this site make
  pub gives : (text : List ℕ) → ending ≡ Printed text → PrintsLog plan site text
  -- a call failed exactly where the end says so; where the outlook is told, one was to fail, or there is no room at all
  pub cause : ending ≡ DiskFault → Rose held.faults left.faults
  pub steady : ending ≢ DiskFault → left.faults ≡ held.faults
  pub failed : IfSome held.outlook (λ o. ending ≡ DiskFault → (o.failing ≢ never) ⊎ (o.room ≡ 0))
  -- no head is added: the disk is left with a closed gate where there was at most one byte, else as it reads
  pub left_as : (ending ≡ DiskFault) ⊎ (left.state ≡ option_map (λ d. at_rest (opened d.bytes)) held.state)
      ⊎ ((ending ≡ NoMemory) × (left.state ≡ held.state))
  -- where there are more bytes than one, nothing is ever written
  pub unwritten : IfSome held.state (λ d. 1 < length d.bytes → EachMoment held left (IsUnwritten d))
  -- at every moment the disk is as it was before the first sync, or each image holds the batches that it read as
  pub any_moment : IfSome held.state (λ d. EachMoment held left (λ t. (t ≡ d) ⊎ KeepsBatches plan site d t))
  pub any_moment_at_rest : IfSome held.state (λ d. IsAtRest d → EachMoment held left (KeepsBatches plan site d))
  -- what stays of what it tells
  pub image : IfSome left.state (λ d. (left.state ≡ held.state) ⊎ IsImage d d.bytes)
  pub told : StaysTold held.state left.state
  pub room : SameRoom held.outlook left.outlook
  pub quiet : StaysQuiet held.outlook left.outlook
  pub keeps : left.keeps ≡ held.keeps
  pub later : held.faults ≤ left.faults

-- an end that comes before the journal is looked at: 2, 4 or 5
abbrev pub IsBeforeDump : Ending → Type 0
IsBeforeDump Usage = ⊥
IsBeforeDump ReadFault = Unit {0}
IsBeforeDump NoMemory = Unit {0}
IsBeforeDump (Refused refusal) = Unit {0}
IsBeforeDump DiskFault = ⊥
IsBeforeDump (JournalRefused refusal) = ⊥
IsBeforeDump (Printed text) = ⊥
IsBeforeDump (Judged verdict) = ⊥
IsBeforeDump (Audited verdict) = ⊥

-- the plan or the site was refused, or there was no memory, and the disk is as before; or the journal was dumped
abbrev pub DumpsSite : PlanData → ℕ → DiskSeen → DiskSeen → Ending → Type 0
DumpsSite plan site held left ending = (IsBeforeDump ending × (left ≡ held)) ⊎ IsDumped plan site held left ending

-- the text is a plan, of which the journal was dumped
abbrev pub DumpsPlan : ℕ → DiskSeen → DiskSeen → Ending → List ℕ → Type 0
DumpsPlan site held left ending bytes = IsOkAnd (plan_of_text bytes) (λ read. IsDumped read.0 site held left ending)

-- the journal was not looked at, and the disk is as before; or the whole input is a plan, of which the journal was dumped
abbrev pub DumpLeaves : ℕ → SourceSeen → SourceSeen → DiskSeen → DiskSeen → Ending → Type 0
DumpLeaves site old new held left ending = (IsBeforeDump ending × (left ≡ held)) ⊎ ReadWhole old new (DumpsPlan site held left ending)

-- the same over a text that was read whole
abbrev pub DumpLeavesOver : ℕ → List ℕ → DiskSeen → DiskSeen → Ending → Type 0
DumpLeavesOver site bytes held left ending = (IsBeforeDump ending × (left ≡ held)) ⊎ DumpsPlan site held left ending bytes

-- the disk after a command over a text that was read whole: only a dump changes it
abbrev pub DiskOver : Command → List ℕ → DiskSeen → DiskSeen → Ending → Type 0
DiskOver Replay bytes held left ending = left ≡ held
DiskOver History bytes held left ending = left ≡ held
DiskOver (Trial number) bytes held left ending = left ≡ held
DiskOver Check bytes held left ending = left ≡ held
DiskOver Plan bytes held left ending = left ≡ held
DiskOver Audit bytes held left ending = left ≡ held
DiskOver Weigh bytes held left ending = left ≡ held
DiskOver (Dump site) bytes held left ending = DumpLeavesOver site bytes held left ending

-- the disk after the end of a run
abbrev pub DiskAfter : Option Command → SourceSeen → SourceSeen → DiskSeen → DiskSeen → Ending → Type 0
DiskAfter None old new held left ending = left ≡ held
DiskAfter (Some Replay) old new held left ending = left ≡ held
DiskAfter (Some History) old new held left ending = left ≡ held
DiskAfter (Some (Trial number)) old new held left ending = left ≡ held
DiskAfter (Some Check) old new held left ending = left ≡ held
DiskAfter (Some Plan) old new held left ending = left ≡ held
DiskAfter (Some Audit) old new held left ending = left ≡ held
DiskAfter (Some Weigh) old new held left ending = left ≡ held
DiskAfter (Some (Dump site)) old new held left ending = DumpLeaves site old new held left ending
