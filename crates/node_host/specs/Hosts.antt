-- What a host stands for, and how its disk holds that.
use Rattle.std.specs.Prelude.{◌≡◌, ◌⊎◌, ℕ, ◌^◌, ◌<◌, ◌≤◌, List, [], ◌∷◌, ◌++◌, length, All}
use Rattle.helios_model.specs.declared.entries.Entry.{Entry}
use Rattle.helios_model.specs.Plans.{PlanData}
use Rattle.helios_model.specs.World.{journaled}
use Rattle.commit_rules.specs.Core.{IsCoreOf}
use Rattle.disk_store.specs.Disk.{DiskState, IsAtRest}
use Rattle.node_journal.specs.Appending.{end_of}
use Rattle.node_journal.specs.Frames.{EndsAt, StandsFor}
use Rattle.log_records.specs.Entries.{batch_bytes}
use Rattle.node_host.specs.Journals.{AreAsked, IsJournal}
use Rattle.node_host.specs.Recovery.{recovered}
use Rattle.node_host.specs.States.{HostState}
use Rattle.node_host.specs.declared.host.Opened.{Opened}

-- the host stands for these batches, and the disk holds them behind a head, with nothing pending
pub record IsHostOn (host : HostState) (batches : List (List Entry)) (disk : DiskState) : Type 0 where
  pub payloads : List (List ℕ)
  pub ends : EndsAt disk.bytes host.gate payloads
  pub headed : 1 ≤ length payloads
  pub journal : IsJournal host.core.plan host.core.site payloads batches
  pub at_rest : IsAtRest disk
  pub node : IsCoreOf host.core host.core.plan (recovered host.core.plan host.core.site batches).node

-- the payload of a batch of these entries
abbrev pub payload_of : List Entry → List ℕ
payload_of entries = batch_bytes (journaled entries)

-- the payloads, and that of the batch of these entries behind them, where there are entries
abbrev pub with_payload : List (List ℕ) → List Entry → List (List ℕ)
with_payload payloads [] = payloads
with_payload payloads (e ∷ es) = payloads ++ batch_bytes (e ∷ es) ∷ []

-- the readings are numbers that a clock can show
abbrev pub HaveReadings : List Entry → Type 0
HaveReadings entries = All (λ e. e.reading < 2 ^ 64) entries

-- the image stands for these payloads, or for them and that of the batch of these entries
abbrev pub MayHold : List (List ℕ) → List Entry → List ℕ → Type 0
MayHold payloads entries image = StandsFor image payloads ⊎ (HaveReadings entries × StandsFor image (with_payload payloads entries))

-- these payloads and then a gate that is not open, with nothing pending
pub record IsEndOf (gate : ℕ) (payloads : List (List ℕ)) (disk : DiskState) : Type 0 where
  pub ends : EndsAt disk.bytes gate payloads
  pub at_rest : IsAtRest disk

-- some of the entries are journaled, and the gate behind their frame would end past the limit
pub record DoesNotFit (host : HostState) (entries : List Entry) : Type 0 where
  pub some : 1 ≤ length (journaled entries)
  pub long : host.limit < end_of host.gate (payload_of entries)

-- the number of the batches, and the own Commits of the last one
pub record IsOpened (plan : PlanData) (site : ℕ) (batches : List (List Entry)) (opened : Opened) : Type 0 where
  pub number : opened.batches ≡ length batches
  pub last : opened.last ≡ (recovered plan site batches).last

-- whatever a disk tells: the host that was opened stands for the node that some batches of this site make
pub record StandsForSome (plan : PlanData) (site : ℕ) (opened : Opened) : Type 0 where
  pub batches : List (List Entry)
  pub asked : All (AreAsked plan site) batches
  pub number_and_last : IsOpened plan site batches opened
  pub node : IsCoreOf opened.host.core plan (recovered plan site batches).node
