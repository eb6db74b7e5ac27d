-- What each planned input asks of a site as the batch begins, and the step of the world that a planned step is.
use Rattle.std.specs.Prelude.{ℕ, List, Option, Some, None, option_map, map, slice_get, if◌then◌else◌}
use Rattle.std.specs.List.{filter_map}
use Rattle.helios_model.specs.declared.ids.Version.{Version}
use Rattle.helios_model.specs.declared.transactions.ReadItem.{ReadItem}
use Rattle.helios_model.specs.declared.entries.Entry.{Entry}
use Rattle.helios_model.specs.declared.entries.Input.TheVariants as Inputs
use Rattle.helios_model.specs.declared.messages.Message.{Message}
use Rattle.helios_model.specs.declared.records.Record.{Record}
use Rattle.helios_model.specs.Plans.{PlanData}
use Rattle.helios_model.specs.Log.{current}
use Rattle.helios_model.specs.World.{World, Event, Batch, Restart, Ending, Done, Kept, Lost, node_of}
use Rattle.disk_store.specs.declared.fate.Stop.{Stop}
use Rattle.node_journal.specs.Appending.{is_kept}
use Rattle.schedule_text.specs.declared.planned.PlannedVersion.{PlannedVersion}
use Rattle.schedule_text.specs.declared.planned.PlannedVersion.TheVariants.{At, Current}
use Rattle.schedule_text.specs.declared.planned.PlannedRead.{PlannedRead}
use Rattle.schedule_text.specs.declared.planned.Planned.{Planned}
use Rattle.schedule_text.specs.declared.planned.Planned.TheVariants.{Get, Status, Request, Pull, Push}
use Rattle.schedule_text.specs.declared.steps.Step.{Step}
use Rattle.schedule_text.specs.declared.steps.Step.TheVariants as Steps

-- the version that is meant, at a site with this log
abbrev pub version_for : List Record → List ℕ → PlannedVersion → Version
version_for log key (At version) = version
version_for log key Current = current log key

abbrev pub read_for : List Record → PlannedRead → ReadItem
read_for log r = record { key = r.key; version = version_for log r.key r.version }

-- a message that is taken in
abbrev pub push_at : ℕ → Message → Entry
push_at at m = record { reading = at; input = Inputs.Push m }

-- what is asked of a site with this log, over the messages that were sent; nothing where no message has the number
abbrev pub entry_for : List Record → List Message → Planned → Option Entry
entry_for log sent (Get key) = Some (record { reading = 0; input = Inputs.Get key })
entry_for log sent (Status id) = Some (record { reading = 0; input = Inputs.Status id })
entry_for log sent (Request at reads puts) = Some (record { reading = at; input = Inputs.Request (record { reads = map (read_for log) reads; puts = puts }) })
entry_for log sent (Pull at to) = Some (record { reading = at; input = Inputs.Pull to })
entry_for log sent (Push at message) = option_map (push_at at) (slice_get sent message)

-- the entries of a batch, over the log and the messages as it begins
abbrev pub entries_for : List Record → List Message → List Planned → List Entry
entries_for log sent inputs = filter_map (entry_for log sent) inputs

-- the entries of a batch at a site of a world
abbrev pub entries_at : PlanData → World → ℕ → List Planned → List Entry
entries_at plan w site inputs = entries_for (node_of plan w site).log w.sent inputs

-- how a batch with this stop ends: a stop at one of the first two calls of its seal loses it, and one at a later call keeps it
-- where the crash leaves the gate open
abbrev pub ending_of : Option Stop → Ending
ending_of None = Done
ending_of (Some stop) = if is_kept stop.call stop.keep then Kept else Lost

-- the step of the world that a planned step is
abbrev pub event_for : PlanData → World → Step → Event
event_for plan w (Steps.Batch site inputs stop) = Batch site (entries_at plan w site inputs) (ending_of stop)
event_for plan w (Steps.Restart site stop) = Restart site
