-- What a disk in memory holds whose script stopped a call of a batch.
use Rattle.std.proofs.Common.{refl, subst, ℕ, ◌≤◌, Bool, true, false, if◌then◌else◌, List, ◌∷◌, ◌++◌, [], All, length, Option, Some, None, Result, Err, IfSome, IsErrOf, arith}
use Rattle.helios_model.specs.declared.entries.Entry.{Entry}
use Rattle.helios_model.specs.Limits.{most_inputs}
use Rattle.helios_model.specs.Plans.{count_of}
use Rattle.helios_model.specs.Spellable.{IsSpellableInput}
use Rattle.helios_model.specs.World.{grown, journaled}
use Rattle.disk_store.specs.Disk.{DiskState}
use Rattle.disk_store.specs.Memory.{keep_of, outlook_of}
use Rattle.disk_store.specs.Crash.{kept}
use Rattle.disk_store.specs.Outlook.{Outlook}
use Rattle.node_journal.specs.Appending.{is_kept}
use Rattle.node_journal.specs.declared.fault.JournalFault.TheVariants as faults
use Rattle.node_journal.specs.Frames.{IsSmall, StandsFor}
use Rattle.node_journal.specs.Laws.{StoppedDisk}
use Rattle.node_journal.specs.Positions.{Position}
use Rattle.log_records.specs.Entries.{batch_bytes}
use Rattle.node_host.specs.declared.fault.HostFault.{HostFault}
use Rattle.node_host.specs.declared.fault.HostFault.TheVariants.{DiskFailed}
use Rattle.node_host.specs.declared.host.Batched.{Batched}
use Rattle.node_host.specs.Hosts.{HaveReadings, IsHostOn, payload_of}
use Rattle.node_host.specs.Journals.{AreAsked, HoldsBatches, IsJournal}
use Rattle.node_host.specs.Laws.{StoppedBatch}
use Rattle.node_host.specs.States.{HostState}
use Rattle.node_host.proofs.Sealing.{ReadAgain, journal_grows, kept_few, kept_inputs, with_some}

abbrev pub NoneLonger : Type 0
NoneLonger = (count : ℕ) (entries : List Entry) → length entries ≤ most_inputs → All (λ e. IsSpellableInput count e.input) entries → length (batch_bytes entries) ≤ 19415761

-- what the seal of the batch left, from what the batch says of it
seal_failed : (outlook : Option Outlook) (P : Outlook → Type 0) (result : Result Batched HostFault) → IsErrOf result DiskFailed → IfSome outlook (λ o. IsErrOf result DiskFailed → P o)
    → IfSome outlook (λ o. IsErrOf {T = Position} (Err faults.DiskFailed) faults.DiskFailed → P o)
seal_failed None P result failed left = tt
seal_failed (Some o) P result failed left = λ _. left failed

module _ (again : ReadAgain) (host : HostState) (batches : List (List Entry)) (entries : List Entry) (disk : DiskState) (on : IsHostOn host batches disk)
    (few : length entries ≤ most_inputs) (asked : AreAsked host.core.plan host.core.site entries) (readings : HaveReadings (journaled entries)) (some : 1 ≤ length (journaled entries)) where
  ending_holds : (image : List ℕ) (kept : Bool) → StandsFor image (if kept then on.payloads ++ payload_of entries ∷ [] else on.payloads)
      → HoldsBatches host.core.plan host.core.site (if kept then grown batches (journaled entries) else batches) image
  ending_holds image true stands = record {
    payloads = on.payloads ++ payload_of entries ∷ [];
    stands = stands;
    journal = subst (λ (ps : List (List ℕ)). IsJournal host.core.plan host.core.site ps (grown batches (journaled entries))) (with_some on.payloads (journaled entries) some)
        (journal_grows again host.core.plan host.core.site entries few asked readings on.payloads batches on.headed on.journal);
  }
  ending_holds image false stands = record { payloads = on.payloads; stands = stands; journal = on.journal }

pub batch_stopped : StoppedDisk → ReadAgain → NoneLonger → StoppedBatch
batch_stopped stopped again longest old new script host batches entries result fails scripted first last on few asked readings some fits failed left keeps =
    let plan = host.core.plan in
    let most = longest (count_of plan) (journaled entries) (kept_few again plan host.core.site entries few asked) (kept_inputs again plan host.core.site entries few asked) in
    let small : IsSmall (payload_of entries) = omega (arith, most) in
    ending_holds again host batches entries old.disk on few asked readings some (kept (keep_of new.fate.script) new.disk) (is_kept script.left script.keep)
    (stopped old new script host.gate (payload_of entries) on.payloads (Err faults.DiskFailed) fails scripted first last fits
    (record { at_rest = on.at_rest; within = on.ends.read.within; closed = on.ends.closed }) on.ends.read small refl
    (seal_failed (outlook_of old.fate.fails old.room old.fate.script) _ result failed left) keeps)
