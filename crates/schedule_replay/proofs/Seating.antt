-- How the calls on a site's host and its disk end.
use Rattle.std.proofs.Common.{◌≡◌, ◌≢◌, ◌⊎◌, inl, inr, ℕ, suc, ◌<◌, ◌≤◌, List, [], ◌∷◌, length, Some, None, Result, Ok, Err, IfSome, IsErrOf, OnErr, refl, ◌∙◌, ap, subst, arith}
use Rattle.helios_model.specs.declared.entries.Entry.{Entry}
use Rattle.helios_model.specs.declared.entries.Reply.{Reply}
use Rattle.helios_model.specs.declared.records.CommitEvent.{CommitEvent}
use Rattle.helios_model.specs.Node.{Node}
use Rattle.helios_model.specs.Plans.{PlanData}
use Rattle.helios_model.specs.Step.{after_entry}
use Rattle.helios_model.specs.World.{grown, journaled}
use Rattle.commit_rules.specs.Core.{CoreState, IsCoreOf}
use Rattle.disk_store.specs.Disk.{DiskState, EachImage, IsAtRest, IsImage}
use Rattle.disk_store.specs.Memory.{MemState}
use Rattle.disk_store.specs.Moments.{AtEachMoment}
use Rattle.disk_store.specs.Outlook.{Outlook, never}
use Rattle.node_host.specs.Answering.{HasAnswered, answers}
use Rattle.node_host.specs.Hosts.{IsHostOn}
use Rattle.node_host.specs.Journals.{HoldsBatches, KeepsBatches}
use Rattle.node_host.specs.Recovery.{recovered}
use Rattle.node_host.specs.Laws.{OwnJournalOpens}
use Rattle.node_host.specs.Openings.{Opens}
use Rattle.node_host.specs.States.{HostState}
use Rattle.node_host.specs.declared.fault.HostFault.{HostFault}
use Rattle.node_host.specs.declared.fault.HostFault.TheVariants.{DiskFailed, NoMemory}
use Rattle.node_host.specs.declared.host.Opened.{Opened}
use Rattle.schedule_replay.specs.Seats.{IsHolding, IsSeated, journal_limit}
use Rattle.schedule_replay.proofs.Quiet.{crashed, crashed_holds, of_quiet, told}

-- of a disk that tells no past, a clause on each moment speaks of the end
pub at_end : (P : DiskState → Type 0) (new : DiskState) → AtEachMoment None None (Some new) P → P new
at_end P new moments = moments.each 0 new (omega arith)

abbrev FailsFor : HostFault → Outlook → Type 0
FailsFor fault o = IsErrOf {T = Opened} (Err fault) DiskFailed → (o.failing ≢ never) ⊎ (o.room < 40)

-- a quiet disk with room for a head fails no opening
pub opening_faults : OwnJournalOpens → (plan : PlanData) (site : ℕ) (batches : List (List Entry)) (fault : HostFault) (m : MemState) → IsHolding plan site batches m → 40 ≤ m.room
    → Opens plan site journal_limit m.disk.bytes (Err fault) → IfSome (told m) (FailsFor fault) → fault ≡ NoMemory
opening_faults opens plan site batches fault m holds roomy ends failed = elim (opens plan site journal_limit m.disk.bytes batches fault (omega arith) holds.holds ends) [
  | inl is ↦ elim (of_quiet (FailsFor fault) m holds.quiet failed (ap Err is)) [
    | inl fails ↦ absurd (fails refl)
    | inr short ↦ absurd (omega arith)
  ]
  | inr is ↦ is
]

-- what an opening leaves and a crash then keeps
pub opening_crashed : (plan : PlanData) (site : ℕ) (batches : List (List Entry)) (old mid new : MemState) → HoldsBatches plan site batches old.disk.bytes → IsAtRest old.disk → mid.fate.fails ≡ []
    → (IsAtRest old.disk → AtEachMoment None None (Some mid.disk) (KeepsBatches plan site old.disk)) → new ≡ crashed mid → IsImage mid.disk new.disk.bytes → IsHolding plan site batches new
opening_crashed plan site batches old mid new holds rest none moments left image =
    crashed_holds plan site batches mid new left none (at_end (KeepsBatches plan site old.disk) mid.disk (moments rest) batches holds new.disk.bytes image)

-- under a host its disk holds the batches that the host stands for
pub seated_holds : (plan : PlanData) (site : ℕ) (batches : List (List Entry)) (host : HostState) (m : MemState) → IsSeated plan site batches host m → IsHolding plan site batches m
seated_holds plan site batches host m seated =
    let held : HoldsBatches host.core.plan host.core.site batches m.disk.bytes =
    record { payloads = seated.on.payloads; stands = inr (host.gate, seated.on.ends); journal = seated.on.journal } in
    record {
      holds = subst (λ (p : PlanData). HoldsBatches p site batches m.disk.bytes) seated.of_plan (subst (λ (s : ℕ). HoldsBatches host.core.plan s batches m.disk.bytes) seated.at_site held);
      at_rest = seated.on.at_rest;
      quiet = seated.quiet;
    }

-- the batches of a site, or these and a new one
abbrev pub HoldsOneOf : PlanData → ℕ → List (List Entry) → List Entry → MemState → Type 0
HoldsOneOf plan site batches entries m = IsHolding plan site batches m ⊎ IsHolding plan site (grown batches (journaled entries)) m

abbrev pub IsBetween : PlanData → ℕ → List (List Entry) → List Entry → DiskState → Type 0
IsBetween plan site batches entries t = EachImage t (λ image. HoldsBatches plan site batches image ⊎ HoldsBatches plan site (grown batches (journaled entries)) image)

-- what a batch leaves and a crash then keeps
pub batch_crashed : (plan : PlanData) (site : ℕ) (batches : List (List Entry)) (entries : List Entry) (mid new : MemState) → mid.fate.fails ≡ []
    → AtEachMoment None None (Some mid.disk) (IsBetween plan site batches entries) → new ≡ crashed mid → IsImage mid.disk new.disk.bytes → HoldsOneOf plan site batches entries new
batch_crashed plan site batches entries mid new none moments left image = elim (at_end (IsBetween plan site batches entries) mid.disk moments new.disk.bytes image) [
  | inl before ↦ inl (crashed_holds plan site batches mid new left none before)
  | inr after ↦ inr (crashed_holds plan site (grown batches (journaled entries)) mid new left none after)
]

length-answers : (plan : PlanData) (n : Node) (entries : List Entry) → length (answers plan n entries) ≡ length entries
length-answers plan n [] = refl
length-answers plan n (e ∷ es) = ap suc (length-answers plan (after_entry plan n e) es)

-- there are as many replies as entries
pub replies_counted : (host : HostState) (batches : List (List Entry)) (disk : DiskState) (entries : List Entry) (core : CoreState) (given : List Reply) (commits : List CommitEvent) → IsHostOn host batches disk
    → ((n : Node) → IsCoreOf host.core host.core.plan n → HasAnswered host.core.plan n entries core given commits) → length given ≡ length entries
replies_counted host batches disk entries core given commits on answered =
    let n : Node = (recovered host.core.plan host.core.site batches).node in
    ap length (answered n on.node).replied ∙ length-answers host.core.plan n entries

-- what holds anyhow holds where the result is an Err
pub on_err : {T E : Type 0} (P : Type 0) (r : Result T E) → P → OnErr r P
on_err P (Ok x) here = tt
on_err P (Err e) here = here
