-- What an opening finds in a journal, and what it leaves.
use Rattle.std.specs.Prelude.{◌≡◌, ◌≢◌, ◌⊎◌, ℕ, ◌++◌, List, [], ◌∷◌, All, IfSome, length, slice_index, Ok}
use Rattle.helios_model.specs.declared.entries.Entry.{Entry}
use Rattle.helios_model.specs.declared.entries.Input.{Input}
use Rattle.helios_model.specs.declared.entries.Input.TheVariants.{Get, Status, Request, Pull, Push}
use Rattle.helios_model.specs.Plans.{PlanData}
use Rattle.commit_rules.specs.Core.{IsCoreOf}
use Rattle.disk_store.specs.Disk.{DiskState, IsAtRest}
use Rattle.node_journal.specs.Frames.{EndsAt, HoldsFrame, IsReadTo, LeadsNowhere}
use Rattle.log_records.specs.declared.heads.Head.{Head}
use Rattle.log_records.specs.Heads.{head_of}
use Rattle.node_host.specs.declared.fault.HostFault.{HostFault}
use Rattle.node_host.specs.declared.fault.HostFault.TheVariants.{DiskFailed, Damaged, JournalFull, WrongPlan, WrongSite, NoMemory}
use Rattle.node_host.specs.declared.recovery.Recovery.{Recovery}
use Rattle.node_host.specs.Recovery.{recovered}
use Rattle.node_host.specs.Journals.{AreAsked, IsBatchPayload, IsJournal}

-- a head of the one form that there is
pub record IsHead (payload : List ℕ) (head : Head) : Type 0 where
  pub read : head_of payload ≡ Ok head
  pub form : head.version ≡ 1

-- a core for the node after these batches, their number, the own Commits of the last one, and the node's log where it is kept
pub record Recovers (plan : PlanData) (site : ℕ) (batches : List (List Entry)) (recovery : Recovery) : Type 0 where
  pub core : IsCoreOf recovery.core plan (recovered plan site batches).node
  pub number : recovery.batches ≡ length batches
  pub last : recovery.last ≡ (recovered plan site batches).last
  pub log : IfSome recovery.log (λ records. records ≡ (recovered plan site batches).node.log)

-- whatever a disk tells: what was recovered is what some batches of this site make
pub record IsRecovered (plan : PlanData) (site : ℕ) (recovery : Recovery) : Type 0 where
  pub batches : List (List Entry)
  pub asked : All (AreAsked plan site) batches
  pub recovers : Recovers plan site batches recovery

-- a payload that was taken is a batch, and what was recovered goes on with it
pub record TakesBatch (plan : PlanData) (site : ℕ) (payload : List ℕ) (before after : Recovery) : Type 0 where
  pub batch : List Entry
  pub is_batch : IsBatchPayload plan site payload batch
  pub goes_on : (batches : List (List Entry)) → Recovers plan site batches before → Recovers plan site (batches ++ batch ∷ []) after

abbrev pub IsNoBatch : PlanData → ℕ → List ℕ → Type 0
IsNoBatch plan site payload = (batch : List Entry) → IsBatchPayload plan site payload batch → ⊥

abbrev pub IsNoHead : List ℕ → Type 0
IsNoHead payload = (head : Head) → IsHead payload head → ⊥

-- why the payload at a place was not taken
abbrev pub RefusesBatch : PlanData → ℕ → ℕ → List ℕ → HostFault → Type 0
RefusesBatch plan site at payload DiskFailed = ⊥
RefusesBatch plan site at payload (Damaged place) = (place ≡ at) × IsNoBatch plan site payload
RefusesBatch plan site at payload JournalFull = ⊥
RefusesBatch plan site at payload (WrongPlan kept given) = ⊥
RefusesBatch plan site at payload (WrongSite kept given) = ⊥
RefusesBatch plan site at payload NoMemory = Unit {0}

-- why the first payload was not taken: it is no head, or is the head of another plan, or of another site of this one
abbrev pub RefusesHead : List ℕ → ℕ → List ℕ → HostFault → Type 0
RefusesHead fingerprint site payload DiskFailed = ⊥
RefusesHead fingerprint site payload (Damaged place) = (place ≡ 0) × IsNoHead payload
RefusesHead fingerprint site payload JournalFull = ⊥
RefusesHead fingerprint site payload (WrongPlan kept given) = (head : Head) × IsHead payload head × (head.fingerprint ≡ kept) × (given ≡ fingerprint) × (kept ≢ given)
RefusesHead fingerprint site payload (WrongSite kept given) = (head : Head) × IsHead payload head × (head.fingerprint ≡ fingerprint) × (head.site ≡ kept) × (given ≡ site) × (kept ≢ given)
RefusesHead fingerprint site payload NoMemory = Unit {0}

-- the entry is for this site: a message to another one, or a message for this one
abbrev pub IsForSite : ℕ → Input → Type 0
IsForSite site (Get key) = Unit {0}
IsForSite site (Status id) = Unit {0}
IsForSite site (Request ask) = Unit {0}
IsForSite site (Pull to) = to ≢ site
IsForSite site (Push m) = m.to ≡ site

-- a journal was read up to this gate, with the head that it begins with
pub record HasRead (plan : PlanData) (site : ℕ) (bytes : List ℕ) (gate : ℕ) (recovery : Recovery) : Type 0 where
  pub head : List ℕ
  pub payloads : List (List ℕ)
  pub batches : List (List Entry)
  pub read : IsReadTo bytes gate (head ∷ payloads)
  pub journal : IsJournal plan site (head ∷ payloads) batches
  pub recovers : Recovers plan site batches recovery

-- the same up to the end, where the gate is not open
pub record IsReadThrough (plan : PlanData) (site : ℕ) (bytes : List ℕ) (gate : ℕ) (recovery : Recovery) : Type 0 where
  pub has : HasRead plan site bytes gate recovery
  pub closed : slice_index bytes gate ≢ 1

-- nothing but this head stands on the disk, and nothing is pending
pub record LeavesHead (head : List ℕ) (gate : ℕ) (disk : DiskState) : Type 0 where
  pub ends : EndsAt disk.bytes gate (head ∷ [])
  pub at_rest : IsAtRest disk

-- no payload of a journal of this site: no head where it would be the first, else no batch
abbrev pub IsNone : PlanData → ℕ → List (List ℕ) → List ℕ → Type 0
IsNone plan site [] payload = IsNoHead payload
IsNone plan site (head ∷ payloads) payload = IsNoBatch plan site payload

-- behind a journal of this site stands a gate that leads nowhere, or a payload that is none of it
pub record IsDamagedAt (plan : PlanData) (site : ℕ) (bytes : List ℕ) (at : ℕ) : Type 0 where
  pub payloads : List (List ℕ)
  pub batches : List (List Entry)
  pub read : IsReadTo bytes at payloads
  pub journal : IsJournal plan site payloads batches
  pub damage : LeadsNowhere bytes at ⊎ ((payload : List ℕ) × HoldsFrame bytes at payload × IsNone plan site payloads payload)

-- why the batches behind a head were not all taken
abbrev pub Interrupts : PlanData → ℕ → List ℕ → HostFault → Type 0
Interrupts plan site bytes DiskFailed = Unit {0}
Interrupts plan site bytes (Damaged at) = IsDamagedAt plan site bytes at
Interrupts plan site bytes JournalFull = ⊥
Interrupts plan site bytes (WrongPlan kept given) = ⊥
Interrupts plan site bytes (WrongSite kept given) = ⊥
Interrupts plan site bytes NoMemory = Unit {0}
