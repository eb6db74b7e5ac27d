-- Which call of a disk in memory fails.
use Rattle.std.specs.Prelude.{ℕ, ◌-◌, Bool, true, false, not, ◌||◌, List, Option, Some, None, ◌==◌, if◌then◌else◌}
use Rattle.std.specs.List.{list_any}
use Rattle.outside_io.specs.Causes.{one_more}
use Rattle.disk_store.specs.declared.fate.Script.{Script}
use Rattle.disk_store.specs.declared.fate.Turn.{Turn}
use Rattle.disk_store.specs.declared.fate.Turn.TheVariants.{Done, Stopped, Skipped}

-- the script, the numbers of the calls that fail, how many calls there were since that list was given, and how many failed
pub record FateState : Type 0 where
  pub script : Option Script
  pub fails : List ℕ
  pub calls : ℕ
  pub faults : ℕ

-- by the script the call is done, is done and stopped, or comes behind the call that was stopped
abbrev pub script_turn : Option Script → Turn
script_turn None = Done
script_turn (Some script) = if script.left == 0 then Skipped else if script.left == 1 then Stopped else Done

-- a call that the list names, or that finds no room, does nothing
abbrev pub turn_of : Bool → FateState → Turn
turn_of fits fate = if list_any (λ number. number == fate.calls) fate.fails || not fits then Skipped else script_turn fate.script

-- the call was done, whatever it answered
abbrev pub was_done : Turn → Bool
was_done Done = true
was_done Stopped = true
was_done Skipped = false

abbrev pub succeeded : Turn → Bool
succeeded Done = true
succeeded Stopped = false
succeeded Skipped = false

-- the script once one call more has been made
abbrev pub script_next : Option Script → Option Script
script_next None = None
script_next (Some script) = Some (record { left = script.left - 1; keep = script.keep })

-- the count of faults once a call had this turn
abbrev pub faults_next : Turn → ℕ → ℕ
faults_next turn faults = if succeeded turn then faults else one_more faults

-- after a call that had this turn
abbrev pub fate_next : Turn → FateState → FateState
fate_next turn fate = record {
  script = script_next fate.script;
  fails = fate.fails;
  calls = one_more fate.calls;
  faults = faults_next turn fate.faults;
}
