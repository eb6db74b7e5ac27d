-- Which records a journal gives, by the bytes that the disk reads as.
use Rattle.std.specs.Prelude.{◌≡◌, ℕ, List, Result, Ok, Err, All}
use Rattle.helios_model.specs.declared.entries.Entry.{Entry}
use Rattle.helios_model.specs.declared.records.Record.{Record}
use Rattle.helios_model.specs.Plans.{PlanData}
use Rattle.node_host.specs.declared.fault.HostFault.{HostFault}
use Rattle.node_host.specs.Journals.{AreAsked, HoldsBatches}
use Rattle.node_host.specs.Openings.{IsRefusal, Stops}
use Rattle.node_host.specs.Recovery.{recovered}

-- the log of the node that these batches make
abbrev pub kept_log : PlanData → ℕ → List (List Entry) → List Record
kept_log plan site batches = (recovered plan site batches).node.log

-- the log of the batches that the bytes hold, or what stands in the way of a journal of this site of this plan
abbrev pub GivesLog : PlanData → ℕ → List ℕ → Result (List Record) HostFault → Type 0
GivesLog plan site bytes (Ok records) = (batches : List (List Entry)) × HoldsBatches plan site batches bytes × (records ≡ kept_log plan site batches)
GivesLog plan site bytes (Err fault) = Stops plan site bytes fault

-- the bytes decide: no call failed, and memory was there
abbrev pub IsDecidedLog : Result (List Record) HostFault → Type 0
IsDecidedLog (Ok records) = Unit {0}
IsDecidedLog (Err fault) = IsRefusal fault

-- whatever a disk tells: the records are the log of some batches of this site
pub record IsLogOfSome (plan : PlanData) (site : ℕ) (records : List Record) : Type 0 where
  pub batches : List (List Entry)
  pub asked : All (AreAsked plan site) batches
  pub log : records ≡ kept_log plan site batches
