-- What the objects of the outside tell, and what stays of it whatever end a run comes to.
use Rattle.std.specs.Prelude.{ℕ, ◌+◌, ◌≤◌, List, Option}
use Rattle.disk_store.specs.declared.fate.Keep.{Keep}
use Rattle.disk_store.specs.Disk.{DiskState}
use Rattle.disk_store.specs.Memory.{MemState}
use Rattle.disk_store.specs.Outlook.{Outlook}
use Rattle.outside_io.specs.Causes.{StaysTold}
use Rattle.outside_io.specs.Seen.{SourceSeen, SinkSeen}
use Rattle.outside_io.specs.Whole.{TakesAtMost}

-- what a disk tells
pub record DiskSeen : Type 0 where
  -- what a read gives and what a crash now may leave
  pub state : Option DiskState
  -- the states before this one, the oldest first
  pub past : Option (List DiskState)
  -- its room, and the call that is to fail
  pub outlook : Option Outlook
  -- what a crash leaves of what is not synced
  pub keeps : Option Keep
  -- how many calls have failed
  pub faults : ℕ

-- the same, by each thing that the disk tells
abbrev pub disk_seen : {T : Type 0} → (T → Option DiskState) → (T → Option (List DiskState)) → (T → Option Outlook) → (T → Option Keep) → (T → ℕ) → T → DiskSeen
disk_seen state past outlook keeps faults disk = record { state = state disk; past = past disk; outlook = outlook disk; keeps = keeps disk; faults = faults disk }

-- what each object tells
pub record Outside : Type 0 where
  -- standard input
  pub input : SourceSeen
  -- standard output
  pub output : SinkSeen
  -- the disk of a node's journal
  pub disk : DiskSeen
  -- the disks of a replay, one for each site
  pub bench : List MemState

-- the most bytes that a command reads
abbrev pub most_input_bytes : ℕ
most_input_bytes = 16777216

-- what is told stays told, no count of faults falls, and nothing is asked of the input once it has given one byte more than
-- a command reads
pub record IsLater (before after : Outside) : Type 0 where
  pub tells_input : StaysTold before.input.left after.input.left
  pub later_input : before.input.faults ≤ after.input.faults
  pub most_input : TakesAtMost (most_input_bytes + 1) before.input.left after.input.left
  pub tells_output : StaysTold before.output.taken after.output.taken
  pub later_output : before.output.faults ≤ after.output.faults
  pub tells_disk : StaysTold before.disk.state after.disk.state
  pub later_disk : before.disk.faults ≤ after.disk.faults
