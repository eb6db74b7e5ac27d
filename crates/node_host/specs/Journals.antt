-- Which batches a site's journal holds.
use Rattle.std.specs.Prelude.{◌≡◌, ℕ, ◌+◌, List, [], ◌∷◌, length, Ok, All}
use Rattle.std.specs.List.{sum_by}
use Rattle.helios_model.specs.declared.entries.Entry.{Entry}
use Rattle.helios_model.specs.Plans.{PlanData, count_of}
use Rattle.helios_model.specs.Step.{MayBeAsked}
use Rattle.disk_store.specs.Disk.{DiskState, EachImage}
use Rattle.node_journal.specs.Frames.{StandsFor}
use Rattle.log_records.specs.declared.heads.Head.{Head}
use Rattle.log_records.specs.Heads.{head_of}
use Rattle.log_records.specs.Entries.{batch_bytes, batch_of}
use Rattle.commit_offsets.specs.Fingerprint.{fingerprint_of}

-- what a site of a plan may be asked, one after the other
abbrev pub AreAsked : PlanData → ℕ → List Entry → Type 0
AreAsked plan site entries = All (λ e. MayBeAsked plan site e.input) entries

-- the spelling of 1 to 16 journaled inputs, each of which this site may be asked
pub record IsBatchPayload (plan : PlanData) (site : ℕ) (payload : List ℕ) (batch : List Entry) : Type 0 where
  pub read : batch_of (count_of plan) payload ≡ Ok batch
  pub spelled : payload ≡ batch_bytes batch
  pub each : AreAsked plan site batch

-- each payload spells the batch at its place
abbrev pub AreBatches : PlanData → ℕ → List (List ℕ) → List (List Entry) → Type 0
AreBatches plan site [] [] = Unit {0}
AreBatches plan site [] (batch ∷ batches) = ⊥
AreBatches plan site (payload ∷ payloads) [] = ⊥
AreBatches plan site (payload ∷ payloads) (batch ∷ batches) = IsBatchPayload plan site payload batch × AreBatches plan site payloads batches

-- the head that a journal of this site of this plan begins with
abbrev pub head_for : PlanData → ℕ → Head
head_for plan site = record { version = 1; fingerprint = fingerprint_of plan; site = site }

abbrev pub IsHeadOf : PlanData → ℕ → List ℕ → Type 0
IsHeadOf plan site payload = head_of payload ≡ Ok (head_for plan site)

-- a node's journal: nothing, or its head and then batches
abbrev pub IsJournal : PlanData → ℕ → List (List ℕ) → List (List Entry) → Type 0
IsJournal plan site [] batches = batches ≡ []
IsJournal plan site (head ∷ payloads) batches = IsHeadOf plan site head × AreBatches plan site payloads batches

-- an image stands for a journal of these batches
pub record HoldsBatches (plan : PlanData) (site : ℕ) (batches : List (List Entry)) (image : List ℕ) : Type 0 where
  pub payloads : List (List ℕ)
  pub stands : StandsFor image payloads
  pub journal : IsJournal plan site payloads batches

-- how many bytes the frame of these entries adds to a journal: none where there are no entries
abbrev pub frame_size : List Entry → ℕ
frame_size [] = 0
frame_size (e ∷ es) = length (batch_bytes (e ∷ es)) + 5

-- where the journal of these batches ends: behind the frame of the head and the frame of each batch
abbrev pub journal_size : List (List Entry) → ℕ
journal_size batches = 39 + sum_by frame_size batches

-- each image of the later disk holds the batches that the earlier one reads as
abbrev pub KeepsBatches : PlanData → ℕ → DiskState → DiskState → Type 0
KeepsBatches plan site old new = (batches : List (List Entry)) → HoldsBatches plan site batches old.bytes → EachImage new (HoldsBatches plan site batches)
