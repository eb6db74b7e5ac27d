-- Which batches an image holds: at most one list, and one more with each payload.
use Rattle.std.proofs.Common.{◌≡◌, ◌∙◌, ap, refl, sym, subst, inl, inr, ℕ, List, [], ◌∷◌, ◌++◌, Ok}
use Rattle.helios_model.specs.declared.entries.Entry.{Entry}
use Rattle.helios_model.specs.Plans.{PlanData, count_of}
use Rattle.disk_store.specs.Disk.{DiskState, IsImage, EachImage, at_rest}
use Rattle.disk_store.specs.Laws.Writes.{rest_images}
use Rattle.node_journal.specs.Frames.{StandsFor}
use Rattle.node_journal.specs.Opening.{KeepsPayloads}
use Rattle.node_journal.specs.Appending.{IsBeforeOrAfter}
use Rattle.node_journal.specs.Laws.{OneList}
use Rattle.log_records.specs.Entries.{batch_of}
use Rattle.node_host.specs.Journals.{AreBatches, HoldsBatches, IsBatchPayload, IsHeadOf, IsJournal, KeepsBatches}

-- one payload and its batch more
pub are_push : (plan : PlanData) (site : ℕ) (payloads : List (List ℕ)) (batches : List (List Entry)) (payload : List ℕ) (batch : List Entry)
    → AreBatches plan site payloads batches → IsBatchPayload plan site payload batch → AreBatches plan site (payloads ++ payload ∷ []) (batches ++ batch ∷ [])
are_push plan site [] [] payload batch are is = (is, tt)
are_push plan site [] (b ∷ batches) payload batch are is = absurd are
are_push plan site (p ∷ payloads) [] payload batch are is = absurd are
are_push plan site (p ∷ payloads) (b ∷ batches) payload batch are is = (are.0, are_push plan site payloads batches payload batch are.1 is)

-- a payload spells one batch
pub same_batch : (plan : PlanData) (site : ℕ) (payload : List ℕ) (a b : List Entry) → IsBatchPayload plan site payload a → IsBatchPayload plan site payload b → a ≡ b
same_batch plan site payload a b is is' =
    let both : Ok a ≡ batch_of (count_of plan) payload = sym is.read in
    let other : batch_of (count_of plan) payload ≡ Ok b = is'.read in
    cc

pub same_batches : (plan : PlanData) (site : ℕ) (payloads : List (List ℕ)) (xs ys : List (List Entry)) → AreBatches plan site payloads xs → AreBatches plan site payloads ys → xs ≡ ys
same_batches plan site [] [] [] are are' = refl
same_batches plan site [] [] (b ∷ ys) are are' = absurd are'
same_batches plan site [] (a ∷ xs) ys are are' = absurd are
same_batches plan site (p ∷ payloads) [] ys are are' = absurd are
same_batches plan site (p ∷ payloads) (a ∷ xs) [] are are' = absurd are'
same_batches plan site (p ∷ payloads) (a ∷ xs) (b ∷ ys) are are' =
    ap (λ x. x ∷ xs) (same_batch plan site p a b are.0 are'.0) ∙ ap (λ xs. b ∷ xs) (same_batches plan site payloads xs ys are.1 are'.1)

pub same_journal : (plan : PlanData) (site : ℕ) (payloads : List (List ℕ)) (xs ys : List (List Entry)) → IsJournal plan site payloads xs → IsJournal plan site payloads ys → xs ≡ ys
same_journal plan site [] xs ys is is' = is ∙ sym is'
same_journal plan site (head ∷ payloads) xs ys is is' = same_batches plan site payloads xs ys is.1 is'.1

-- a journal goes on with one batch more
pub journal_push : (plan : PlanData) (site : ℕ) (head : List ℕ) (payloads : List (List ℕ)) (batches : List (List Entry)) (payload : List ℕ) (batch : List Entry)
    → IsJournal plan site (head ∷ payloads) batches → IsBatchPayload plan site payload batch → IsJournal plan site ((head ∷ payloads) ++ payload ∷ []) (batches ++ batch ∷ [])
journal_push plan site head payloads batches payload batch is more = (is.0, are_push plan site payloads batches payload batch is.1 more)

-- an image holds at most one list of batches
pub holding_is_one : OneList → (plan : PlanData) (site : ℕ) (image : List ℕ) (xs ys : List (List Entry)) → HoldsBatches plan site xs image → HoldsBatches plan site ys image → xs ≡ ys
holding_is_one one plan site image xs ys holds holds' =
    let same : holds'.payloads ≡ holds.payloads = one image holds'.payloads holds.payloads holds'.stands holds.stands in
    same_journal plan site holds.payloads xs ys holds.journal (subst (λ ps. IsJournal plan site ps ys) same holds'.journal)

-- images that stand for the payloads that were read hold the batches that were read
pub payloads_keep : (plan : PlanData) (site : ℕ) (old new : DiskState) → KeepsPayloads old new → KeepsBatches plan site old new
payloads_keep plan site old new keeps batches holds image is =
    record { payloads = holds.payloads; stands = keeps holds.payloads holds.stands image is; journal = holds.journal }

-- a disk that holds nothing, and then nothing or a head
pub head_keeps : OneList → (plan : PlanData) (site : ℕ) (head : List ℕ) (old mid new : DiskState) → IsHeadOf plan site head → KeepsPayloads old mid
    → StandsFor mid.bytes [] → IsImage mid mid.bytes → EachImage new (IsBeforeOrAfter [] head) → KeepsBatches plan site old new
head_keeps one plan site head old mid new is_head keeps none self before_or_after batches holds image is =
    by_list (before_or_after image is)
  where
    same : holds.payloads ≡ []
    same = one mid.bytes holds.payloads [] (keeps holds.payloads holds.stands mid.bytes self) none

    empty : batches ≡ []
    empty = subst (λ ps. IsJournal plan site ps batches) same holds.journal

    by_list : IsBeforeOrAfter [] head image → HoldsBatches plan site batches image
    by_list (inl stands) = record { payloads = []; stands = stands; journal = empty }
    by_list (inr stands) = record { payloads = head ∷ []; stands = stands; journal = (is_head, subst (λ bs. AreBatches plan site [] bs) (sym empty) tt) }

-- what an image of an image of a disk holds
pub keeps_trans : (plan : PlanData) (site : ℕ) (old mid new : DiskState) → KeepsBatches plan site old mid → IsImage mid mid.bytes → KeepsBatches plan site mid new → KeepsBatches plan site old new
keeps_trans plan site old mid new first self second batches holds = second batches (first batches holds mid.bytes self)

-- a disk at rest keeps what it reads xs
pub rest_keeps : (plan : PlanData) (site : ℕ) (disk : DiskState) → KeepsBatches plan site disk (at_rest disk.bytes)
rest_keeps plan site disk batches holds image is = subst (HoldsBatches plan site batches) (sym (rest_images disk.bytes image is)) holds
