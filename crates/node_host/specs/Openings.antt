-- How the opening of a host ends, by the bytes that the disk reads as.
use Rattle.std.specs.Prelude.{◌≡◌, ◌≢◌, ℕ, ◌<◌, ◌≤◌, List, [], length, slice_index, Result, Ok, Err}
use Rattle.helios_model.specs.declared.entries.Entry.{Entry}
use Rattle.helios_model.specs.Plans.{PlanData}
use Rattle.node_journal.specs.Frames.{HoldsFrame, StandsFor}
use Rattle.log_records.specs.declared.heads.Head.{Head}
use Rattle.commit_offsets.specs.Fingerprint.{fingerprint_of}
use Rattle.node_host.specs.declared.fault.HostFault.{HostFault}
use Rattle.node_host.specs.declared.fault.HostFault.TheVariants.{DiskFailed, Damaged, JournalFull, WrongPlan, WrongSite, NoMemory}
use Rattle.node_host.specs.declared.host.Opened.{Opened}
use Rattle.node_host.specs.Hosts.{IsOpened}
use Rattle.node_host.specs.Journals.{HoldsBatches}
use Rattle.node_host.specs.Opening.{IsDamagedAt, IsHead}

-- the first payload is this head
pub record BeginsWith (bytes : List ℕ) (head : Head) : Type 0 where
  pub long : 1 < length bytes
  pub payload : List ℕ
  pub frame : HoldsFrame bytes 0 payload
  pub is : IsHead payload head

-- What stands in the way of a journal of this site of this plan, first in the file. A failed call and want of memory may come anywhere.
abbrev pub Stops : PlanData → ℕ → List ℕ → HostFault → Type 0
Stops plan site bytes DiskFailed = Unit {0}
Stops plan site bytes (Damaged at) = (1 < length bytes) × IsDamagedAt plan site bytes at
Stops plan site bytes JournalFull = ⊥
Stops plan site bytes (WrongPlan kept given) = (head : Head) × BeginsWith bytes head × (head.fingerprint ≡ kept) × (given ≡ fingerprint_of plan) × (kept ≢ given)
Stops plan site bytes (WrongSite kept given) = (head : Head) × BeginsWith bytes head × (head.fingerprint ≡ fingerprint_of plan) × (head.site ≡ kept) × (given ≡ site) × (kept ≢ given)
Stops plan site bytes NoMemory = Unit {0}

-- the first gate is open, and something stands behind it
pub record IsBegunOpen (bytes : List ℕ) : Type 0 where
  pub long : 1 < length bytes
  pub is_open : slice_index bytes 0 ≡ 1

-- The batches of a journal of this site, with a head or room for it within the limit; or what stands in the way.
abbrev pub Opens : PlanData → ℕ → ℕ → List ℕ → Result Opened HostFault → Type 0
Opens plan site limit bytes (Ok opened) = (batches : List (List Entry)) × HoldsBatches plan site batches bytes × (StandsFor bytes [] → 40 ≤ limit)
Opens plan site limit bytes (Err DiskFailed) = Stops plan site bytes DiskFailed
Opens plan site limit bytes (Err (Damaged at)) = Stops plan site bytes (Damaged at)
Opens plan site limit bytes (Err JournalFull) = StandsFor bytes [] × (limit < 40)
Opens plan site limit bytes (Err (WrongPlan kept given)) = Stops plan site bytes (WrongPlan kept given)
Opens plan site limit bytes (Err (WrongSite kept given)) = Stops plan site bytes (WrongSite kept given)
Opens plan site limit bytes (Err NoMemory) = Stops plan site bytes NoMemory

-- the journal is none of this site of this plan
abbrev pub IsRefusal : HostFault → Type 0
IsRefusal DiskFailed = ⊥
IsRefusal (Damaged at) = Unit {0}
IsRefusal JournalFull = ⊥
IsRefusal (WrongPlan kept given) = Unit {0}
IsRefusal (WrongSite kept given) = Unit {0}
IsRefusal NoMemory = ⊥

-- the bytes decide: no call failed, and memory was there
abbrev pub IsDecided : Result Opened HostFault → Type 0
IsDecided (Ok opened) = Unit {0}
IsDecided (Err DiskFailed) = ⊥
IsDecided (Err (Damaged at)) = Unit {0}
IsDecided (Err JournalFull) = Unit {0}
IsDecided (Err (WrongPlan kept given)) = Unit {0}
IsDecided (Err (WrongSite kept given)) = Unit {0}
IsDecided (Err NoMemory) = ⊥

-- what is opened is what the batches make that the bytes hold
abbrev pub GivesHeld : PlanData → ℕ → List ℕ → Result Opened HostFault → Type 0
GivesHeld plan site bytes (Ok opened) = (batches : List (List Entry)) → HoldsBatches plan site batches bytes → IsOpened plan site batches opened
GivesHeld plan site bytes (Err fault) = Unit {0}

-- the same number of batches and the same own Commits of the last one, or the same fault
abbrev pub EndAlike : Result Opened HostFault → Result Opened HostFault → Type 0
EndAlike (Ok opened) (Ok other) = (opened.batches ≡ other.batches) × (opened.last ≡ other.last)
EndAlike (Ok opened) (Err fault) = ⊥
EndAlike (Err fault) (Ok opened) = ⊥
EndAlike (Err fault) (Err other) = fault ≡ other
