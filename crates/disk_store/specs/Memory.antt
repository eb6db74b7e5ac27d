-- A disk in memory: its contents, and which of its calls fail.
use Rattle.std.specs.Prelude.{ℕ, List, [], ◌∷◌, Option, Some, None, ◌==◌, if◌then◌else◌}
use Rattle.disk_store.specs.Disk.{DiskState, at_rest}
use Rattle.disk_store.specs.Outlook.{Outlook, Failing, never, at_call, already}
use Rattle.disk_store.specs.declared.fate.Keep.{Keep}
use Rattle.disk_store.specs.declared.fate.Keep.TheVariants.{Nothing}
use Rattle.disk_store.specs.declared.fate.Script.{Script}
use Rattle.disk_store.specs.declared.fate.Turn.{Turn}
use Rattle.disk_store.specs.Fates.{FateState, was_done, fate_next}

-- what contracts see of a `MemDisk`
pub record MemState : Type 0 where
  pub disk : DiskState
  pub room : ℕ
  pub fate : FateState

-- the disk after a call that had this turn and left these contents
abbrev pub after_call : Turn → DiskState → MemState → MemState
after_call turn disk old = record { disk = disk; room = old.room; fate = fate_next turn old.fate }

-- the contents where a call was done, even if it answered that it failed
abbrev pub if_done : Turn → DiskState → DiskState → DiskState
if_done turn new old = if was_done turn then new else old

-- what a script says of the calls to come
abbrev pub failing_of : Option Script → Failing
failing_of None = never
failing_of (Some script) = if script.left == 0 then already else at_call script.left

-- a disk in memory tells its outlook where it has no list of failing calls
abbrev pub outlook_of : List ℕ → ℕ → Option Script → Option Outlook
outlook_of [] room script = Some (record { room = room; failing = failing_of script })
outlook_of (number ∷ fails) room script = None

-- what the script keeps; without one nothing that is not synced
abbrev pub keep_of : Option Script → Keep
keep_of None = Nothing
keep_of (Some script) = script.keep

-- a disk as it is made without bytes and without room
abbrev pub empty_disk : MemState
empty_disk = record { disk = at_rest []; room = 0; fate = record { script = None; fails = []; calls = 0; faults = 0 } }

-- a disk that was made empty: no script, no list of failing calls, and its room and count of faults as before
abbrev pub cleared : MemState → MemState
cleared old = record { disk = at_rest []; room = old.room; fate = record { script = None; fails = []; calls = 0; faults = old.fate.faults } }
