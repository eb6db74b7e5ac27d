-- Facts that follow from the definitions alone; each is the clause of a function of `laws`.
use Rattle.std.specs.Prelude.{◌≡◌, ◌⊎◌, ◌≤◌, ℕ, nat_le, if◌then◌else◌, List, [], ◌∷◌, ◌++◌, length, Some, Err, option_map, Result, IfSome, IsErrOf}
use Rattle.helios_model.specs.declared.entries.Entry.{Entry}
use Rattle.helios_model.specs.declared.records.Record.{Record}
use Rattle.helios_model.specs.Node.{Node}
use Rattle.helios_model.specs.Plans.{PlanData}
use Rattle.helios_model.specs.Step.{after_entries}
use Rattle.helios_model.specs.World.{World, grown, journal_of, journaled, node_of, own_commits}
use Rattle.disk_store.specs.Crash.{kept}
use Rattle.disk_store.specs.Disk.{DiskState, EachImage, IsImage}
use Rattle.disk_store.specs.Memory.{MemState, keep_of, outlook_of}
use Rattle.disk_store.specs.declared.fate.Script.{Script}
use Rattle.node_journal.specs.Appending.{IsBeforeOrAfter, end_of, failed_state, is_kept}
use Rattle.node_journal.specs.Frames.{StandsFor}
use Rattle.node_journal.specs.Opening.{KeepsPayloads}
use Rattle.helios_model.specs.Limits.{most_inputs}
use Rattle.node_host.specs.declared.fault.HostFault.{HostFault}
use Rattle.node_host.specs.declared.fault.HostFault.TheVariants.{DiskFailed, NoMemory}
use Rattle.node_host.specs.declared.host.Batched.{Batched}
use Rattle.node_host.specs.declared.host.Opened.{Opened}
use Rattle.node_host.specs.Hosts.{HaveReadings, IsHostOn, payload_of}
use Rattle.node_host.specs.Journals.{AreAsked, HoldsBatches, IsBatchPayload, IsHeadOf, IsJournal, KeepsBatches, journal_size}
use Rattle.node_host.specs.Kept.{GivesLog, IsDecidedLog}
use Rattle.node_host.specs.Openings.{EndAlike, GivesHeld, IsDecided, Opens}
use Rattle.node_host.specs.Recovery.{recovered, take_batch}
use Rattle.node_host.specs.States.{HostState}

-- an image holds at most one list of batches
abbrev pub OneHolding : Type 0
OneHolding = (plan : PlanData) (site : ℕ) (image : List ℕ) (batches others : List (List Entry))
    → HoldsBatches plan site batches image → HoldsBatches plan site others image → batches ≡ others

-- a journal goes on with one batch more
abbrev pub BatchesArePushed : Type 0
BatchesArePushed = (plan : PlanData) (site : ℕ) (head : List ℕ) (payloads : List (List ℕ)) (batches : List (List Entry)) (payload : List ℕ) (batch : List Entry)
    → IsJournal plan site (head ∷ payloads) batches → IsBatchPayload plan site payload batch
    → IsJournal plan site ((head ∷ payloads) ++ payload ∷ []) (batches ++ batch ∷ [])

-- a disk that holds nothing, and then nothing or a head
abbrev pub HeadKeeps : Type 0
HeadKeeps = (plan : PlanData) (site : ℕ) (head : List ℕ) (old mid new : DiskState) → IsHeadOf plan site head → KeepsPayloads old mid
    → StandsFor mid.bytes [] → IsImage mid mid.bytes → EachImage new (IsBeforeOrAfter [] head) → KeepsBatches plan site old new

-- one batch more goes on from what the batches before made
abbrev pub RecoveredGoesOn : Type 0
RecoveredGoesOn = (plan : PlanData) (site : ℕ) (batches : List (List Entry)) (batch : List Entry)
    → recovered plan site (batches ++ batch ∷ []) ≡ take_batch plan (recovered plan site batches) batch

-- the own Commits of two runs of entries, joined, are those of the whole
abbrev pub CommitsAreJoined : Type 0
CommitsAreJoined = (plan : PlanData) (n : Node) (es fs : List Entry)
    → own_commits n.site (after_entries plan n es).log (length n.log)
    ++ own_commits (after_entries plan n es).site (after_entries plan (after_entries plan n es) fs).log (length (after_entries plan n es).log)
    ≡ own_commits n.site (after_entries plan n (es ++ fs)).log (length n.log)

-- the gate of a host stands where the journal of its batches ends
abbrev pub HostStandsAtItsEnd : Type 0
HostStandsAtItsEnd = (host : HostState) (batches : List (List Entry)) (disk : DiskState) → IsHostOn host batches disk → host.gate ≡ journal_size batches

-- entries that are not journaled leave the node as it is
abbrev pub JournaledSuffice : Type 0
JournaledSuffice = (plan : PlanData) (n : Node) (entries : List Entry) → after_entries plan n (journaled entries) ≡ after_entries plan n entries

-- what the batches of a site's journal make is the site's node
abbrev pub RecoveredIsNode : Type 0
RecoveredIsNode = (plan : PlanData) (w : World) (site : ℕ) → (recovered plan site (journal_of w site)).node ≡ node_of plan w site

-- a journal of this site of this plan opens, where there is room for a head and no call fails
abbrev pub OwnJournalOpens : Type 0
OwnJournalOpens = (plan : PlanData) (site limit : ℕ) (bytes : List ℕ) (batches : List (List Entry)) (fault : HostFault) → 40 ≤ limit
    → HoldsBatches plan site batches bytes → Opens plan site limit bytes (Err fault) → (fault ≡ DiskFailed) ⊎ (fault ≡ NoMemory)

-- what a disk reads as decides how an opening ends
abbrev pub OneEnd : Type 0
OneEnd = (plan : PlanData) (site limit : ℕ) (bytes : List ℕ) (result other : Result Opened HostFault) → Opens plan site limit bytes result
    → Opens plan site limit bytes other → GivesHeld plan site bytes result → GivesHeld plan site bytes other → IsDecided result → IsDecided other
    → EndAlike result other

-- what a disk reads as decides which records it gives
abbrev pub OneLog : Type 0
OneLog = (plan : PlanData) (site : ℕ) (bytes : List ℕ) (result decided : Result (List Record) HostFault) → GivesLog plan site bytes result
    → GivesLog plan site bytes decided → IsDecidedLog decided → (result ≡ decided) ⊎ IsErrOf result DiskFailed ⊎ IsErrOf result NoMemory

-- A disk in memory, whose script stopped one of the four calls of a batch, crashed: it holds the batches before, or these and the new one, by the
-- number of the call and by what the crash keeps. The premises on the batch are its clauses `readings`, `failed` and `keeps`.
abbrev pub StoppedBatch : Type 0
StoppedBatch = (old new : MemState) (script : Script) (host : HostState) (batches : List (List Entry)) (entries : List Entry) (result : Result Batched HostFault)
    → old.fate.fails ≡ [] → old.fate.script ≡ Some script → 1 ≤ script.left → script.left ≤ 4 → IsHostOn host batches old.disk
    → length entries ≤ most_inputs → AreAsked host.core.plan host.core.site entries → HaveReadings (journaled entries) → 1 ≤ length (journaled entries) → end_of host.gate (payload_of entries) ≤ old.room
    → IsErrOf result DiskFailed
    → IfSome (outlook_of old.fate.fails old.room old.fate.script) (λ o. IsErrOf result DiskFailed → Some new.disk ≡
    (if nat_le (end_of host.gate (payload_of entries)) o.room then option_map (failed_state o.failing host.gate (payload_of entries)) (Some old.disk) else Some old.disk))
    → Some (keep_of new.fate.script) ≡ Some (keep_of old.fate.script)
    → HoldsBatches host.core.plan host.core.site (if is_kept script.left script.keep then grown batches (journaled entries) else batches) (kept (keep_of new.fate.script) new.disk)
