-- An opening, from the disk as it was given.
use Rattle.std.proofs.Common.{◌≡◌, ◌⊎◌, ◌∙◌, ap, refl, sym, subst, inl, inr, ℕ, ◌<◌, ◌≤◌, nat_le, true, false, List, [], ◌∷◌, length, slice_index, Result, Ok, Err, Option, Some, None, option_map, is_some, IfSome, IfOk, arith}
use Rattle.std.specs.Option.{ForSome}
use Rattle.std.proofs.lemmas.Bool.{cases_lt}
use Rattle.std.proofs.lemmas.Bool.Decides.{nat_tests}
use Rattle.helios_model.specs.declared.entries.Entry.{Entry}
use Rattle.helios_model.specs.Plans.{PlanData}
use Rattle.disk_store.specs.Disk.{DiskState, IsAtRest, at_rest}
use Rattle.disk_store.specs.Moments.{AtEachMoment}
use Rattle.disk_store.specs.Laws.Moments.{Past, moments_join, moments_start, moments_weaker}
use Rattle.disk_store.specs.Laws.Writes.{rest_image}
use Rattle.node_journal.specs.Laws.{OneList}
use Rattle.node_journal.specs.Opening.{IsUnwritten, KeepsPayloads, opened}
use Rattle.node_host.specs.declared.fault.HostFault.{HostFault}
use Rattle.node_host.specs.declared.fault.HostFault.TheVariants.{DiskFailed, Damaged, JournalFull, WrongPlan, WrongSite, NoMemory}
use Rattle.node_host.specs.declared.host.Opened.{Opened}
use Rattle.node_host.specs.Hosts.{IsHostOn, IsOpened}
use Rattle.node_host.specs.Journals.{HoldsBatches, IsJournal, KeepsBatches}
use Rattle.node_host.specs.Openings.{IsBegunOpen, Opens}
use Rattle.node_host.proofs.Holdings.{keeps_trans, payloads_keep}
use Rattle.node_host.proofs.Standing.{rest_payloads}

-- at most one byte and a closed gate end an opening alike
short_ends : OneList → (plan : PlanData) (site limit : ℕ) (bytes : List ℕ) (result : Result Opened HostFault) → length bytes ≤ 1
    → Opens plan site limit (0 ∷ []) result → Opens plan site limit bytes result
short_ends one plan site limit bytes (Ok given) short ends =
    let holds : HoldsBatches plan site ends.0 (0 ∷ []) = ends.1 in
    let none : holds.payloads ≡ [] = one (0 ∷ []) holds.payloads [] holds.stands (inl (omega arith, refl)) in (
      ends.0,
      record { payloads = []; stands = inl (short, refl); journal = subst (λ ps. IsJournal plan site ps ends.0) none holds.journal },
      λ stands. ends.2 (inl (omega arith, refl)),
    )
short_ends one plan site limit bytes (Err DiskFailed) short ends = tt
short_ends one plan site limit bytes (Err (Damaged at)) short ends = absurd (let long : 1 < 1 = ends.0 in omega arith)
short_ends one plan site limit bytes (Err JournalFull) short ends = (inl (short, refl), ends.1)
short_ends one plan site limit bytes (Err (WrongPlan kept given)) short ends = absurd (let long : 1 < 1 = ends.1.long in omega arith)
short_ends one plan site limit bytes (Err (WrongSite kept given)) short ends = absurd (let long : 1 < 1 = ends.1.long in omega arith)
short_ends one plan site limit bytes (Err NoMemory) short ends = tt

opened_ends : OneList → (plan : PlanData) (site limit : ℕ) (bytes : List ℕ) (result : Result Opened HostFault)
    → Opens plan site limit (opened bytes) result → Opens plan site limit bytes result
opened_ends one plan site limit bytes result ends = elim (cases_lt 1 (length bytes)) [
  | inl long ↦ subst (λ (l : List ℕ). Opens plan site limit l result) (let test : nat_le (length bytes) 1 ≡ false = grind (arith, nat_tests) in rw test) ends
  | inr short ↦ short_ends one plan site limit bytes result short
      (subst (λ (l : List ℕ). Opens plan site limit l result) (let test : nat_le (length bytes) 1 ≡ true = grind (arith, nat_tests) in rw test) ends)
]

-- what a disk held, it holds once it was opened
still_holds : (plan : PlanData) (site : ℕ) (batches : List (List Entry)) (disk : DiskState) → KeepsPayloads disk (at_rest (opened disk.bytes))
    → HoldsBatches plan site batches disk.bytes → HoldsBatches plan site batches (opened disk.bytes)
still_holds plan site batches disk keeps holds =
    payloads_keep plan site disk (at_rest (opened disk.bytes)) keeps batches holds (opened disk.bytes) (rest_image (opened disk.bytes))

module _ (plan : PlanData) (site : ℕ) where
  abbrev Before : DiskState → DiskState → Type 0
  Before d t = (t ≡ d) ⊎ KeepsBatches plan site d t

  -- no call was made
  pub none_moments : (past : Past) (old : Option DiskState) → IfSome old (λ d. AtEachMoment past past old (λ t. (t ≡ d) ⊎ KeepsBatches plan site d t))
  none_moments past None = tt
  none_moments past (Some d) = moments_start (Before d) past d (inl refl)

  pub none_moments_at_rest : (past : Past) (old : Option DiskState) → IfSome old (λ d. IsAtRest d → AtEachMoment past past old (λ t. KeepsBatches plan site d t))
  none_moments_at_rest past None = tt
  none_moments_at_rest past (Some d) = λ rest. moments_start (λ t. KeepsBatches plan site d t) past d (payloads_keep plan site d d (rest_payloads d rest))

  -- the journal was opened
  before_weaker : (d t : DiskState) → (t ≡ d) ⊎ KeepsPayloads d t → Before d t
  before_weaker d t (inl stays) = inl stays
  before_weaker d t (inr keeps) = inr (payloads_keep plan site d t keeps)

  pub opened_moments : (past mid : Past) (old now : Option DiskState) → is_some now ≡ is_some old
      → IfSome old (λ d. AtEachMoment past mid now (λ t. (t ≡ d) ⊎ KeepsPayloads d t)) → IfSome old (λ d. AtEachMoment past mid now (λ t. (t ≡ d) ⊎ KeepsBatches plan site d t))
  opened_moments past mid None now told moments = tt
  opened_moments past mid (Some d) None told moments = absurd (let clash : false ≡ true = told in cc)
  opened_moments past mid (Some d) (Some t) told moments = moments_weaker (λ s. (s ≡ d) ⊎ KeepsPayloads d s) (Before d) (before_weaker d) past mid t moments

  pub opened_moments_at_rest : (past mid : Past) (old now : Option DiskState) → is_some now ≡ is_some old
      → IfSome old (λ d. IsAtRest d → AtEachMoment past mid now (λ t. KeepsPayloads d t)) → IfSome old (λ d. IsAtRest d → AtEachMoment past mid now (λ t. KeepsBatches plan site d t))
  opened_moments_at_rest past mid None now told moments = tt
  opened_moments_at_rest past mid (Some d) None told moments = absurd (let clash : false ≡ true = told in cc)
  opened_moments_at_rest past mid (Some d) (Some t) told moments = λ rest.
      moments_weaker (λ s. KeepsPayloads d s) (λ s. KeepsBatches plan site d s) (λ s keeps. payloads_keep plan site d s keeps) past mid t (moments rest)

-- nothing was written, and no call was made since
pub unwritten_none : (past : Past) (old : Option DiskState) → IfSome old (λ d. IsBegunOpen d.bytes → AtEachMoment past past old (IsUnwritten d))
unwritten_none past None = tt
unwritten_none past (Some d) = λ begun. moments_start (IsUnwritten d) past d (inl refl)

pub unwritten_begun : (past mid : Past) (old now : Option DiskState) → IfSome old (λ d. 1 < length d.bytes → AtEachMoment past mid now (IsUnwritten d))
    → IfSome old (λ d. IsBegunOpen d.bytes → AtEachMoment past mid now (IsUnwritten d))
unwritten_begun past mid None now moments = tt
unwritten_begun past mid (Some d) now moments = λ begun. moments begun.long

-- a journal of more than one byte is read where it was opened
opened_long : (bytes : List ℕ) → 1 < length bytes → opened bytes ≡ bytes
opened_long bytes long = let test : nat_le (length bytes) 1 ≡ false = grind (arith, nat_tests) in rw test

-- nor behind it, where the first gate is open
pub unwritten_whole : (past mid past' : Past) (old now new : Option DiskState) → now ≡ option_map (λ d. at_rest (opened d.bytes)) old
    → IfSome old (λ d. 1 < length d.bytes → AtEachMoment past mid now (IsUnwritten d))
    → IfSome now (λ d. slice_index d.bytes 0 ≡ 1 → (new ≡ now) × (past' ≡ mid))
    → IfSome old (λ d. IsBegunOpen d.bytes → AtEachMoment past past' new (IsUnwritten d))
unwritten_whole past mid past' None now new opens moments stays = tt
unwritten_whole past mid past' (Some d) now new opens moments stays = λ begun.
    let there : slice_index (opened d.bytes) 0 ≡ 1 = ap (λ (l : List ℕ). slice_index l 0) (opened_long d.bytes begun.long) ∙ begun.is_open in
    let stays' = subst (λ (s : Option DiskState). IfSome s (λ t. slice_index t.bytes 0 ≡ 1 → (new ≡ now) × (past' ≡ mid))) opens stays in
    let same : (new ≡ now) × (past' ≡ mid) = stays' there in
    subst (λ (s : Option DiskState). AtEachMoment past past' s (IsUnwritten d)) (sym same.0)
    (subst (λ (p : Past). AtEachMoment past p now (IsUnwritten d)) (sym same.1) (moments begun.long))

-- the journal was opened, and then read by a core of this site of this plan
module _ (plan : PlanData) (site limit : ℕ) (plan' : PlanData) (site' limit' : ℕ) (of_plan : plan' ≡ plan) (at_site : site' ≡ site) (in_limit : limit' ≡ limit)
    (old now : Option DiskState) (opens : now ≡ option_map (λ d. at_rest (opened d.bytes)) old) where
  pub whole_ends : OneList → (result : Result Opened HostFault) → IfSome now (λ d. Opens plan' site' limit' d.bytes result) → IfSome old (λ d. Opens plan site limit d.bytes result)
  whole_ends one result ends = by_state old
      (subst (λ (s : Option DiskState). IfSome s (λ d. Opens plan site limit d.bytes result)) opens
      (subst (λ (p : PlanData). IfSome now (λ d. Opens p site limit d.bytes result)) of_plan
      (subst (λ (s : ℕ). IfSome now (λ d. Opens plan' s limit d.bytes result)) at_site
      (subst (λ (n : ℕ). IfSome now (λ d. Opens plan' site' n d.bytes result)) in_limit ends))))
    where
      by_state : (s : Option DiskState) → IfSome (option_map (λ d. at_rest (opened d.bytes)) s) (λ d. Opens plan site limit d.bytes result) → IfSome s (λ d. Opens plan site limit d.bytes result)
      by_state None so = tt
      by_state (Some d) so = opened_ends one plan site limit d.bytes result so

  module _ (kept : IfSome old (λ d. KeepsPayloads d (at_rest (opened d.bytes)))) where
    pub whole_stands : (result : Result Opened HostFault) (new : Option DiskState)
        → IfOk result (λ o. IfSome now (λ d. (batches : List (List Entry)) → HoldsBatches plan' site' batches d.bytes → IsOpened plan' site' batches o × ForSome new (IsHostOn o.host batches)))
        → IfOk result (λ o. IfSome old (λ d. (batches : List (List Entry)) → HoldsBatches plan site batches d.bytes → IsOpened plan site batches o × ForSome new (IsHostOn o.host batches)))
    whole_stands (Err fault) new stands = tt
    whole_stands (Ok o) new stands = by_state old kept
        (subst (λ (s : Option DiskState). IfSome s (λ d. (batches : List (List Entry)) → HoldsBatches plan site batches d.bytes → IsOpened plan site batches o × ForSome new (IsHostOn o.host batches))) opens
        (subst (λ (p : PlanData). IfSome now (λ d. (batches : List (List Entry)) → HoldsBatches p site batches d.bytes → IsOpened p site batches o × ForSome new (IsHostOn o.host batches))) of_plan
        (subst (λ (s : ℕ). IfSome now (λ d. (batches : List (List Entry)) → HoldsBatches plan' s batches d.bytes → IsOpened plan' s batches o × ForSome new (IsHostOn o.host batches))) at_site stands)))
      where
        by_state : (s : Option DiskState) → IfSome s (λ d. KeepsPayloads d (at_rest (opened d.bytes)))
            → IfSome (option_map (λ d. at_rest (opened d.bytes)) s) (λ d. (batches : List (List Entry)) → HoldsBatches plan site batches d.bytes → IsOpened plan site batches o × ForSome new (IsHostOn o.host batches))
            → IfSome s (λ d. (batches : List (List Entry)) → HoldsBatches plan site batches d.bytes → IsOpened plan site batches o × ForSome new (IsHostOn o.host batches))
        by_state None keeps so = tt
        by_state (Some d) keeps so = λ batches holds. so batches (still_holds plan site batches d keeps holds)

    module _ (past mid past' : Past) (new : Option DiskState) (told : is_some new ≡ is_some old)
        (read : IfSome now (λ d. AtEachMoment mid past' new (λ t. KeepsBatches plan' site' d t))) where
      read_on : IfSome now (λ d. AtEachMoment mid past' new (λ t. KeepsBatches plan site d t))
      read_on = subst (λ (p : PlanData). IfSome now (λ d. AtEachMoment mid past' new (λ t. KeepsBatches p site d t))) of_plan
          (subst (λ (s : ℕ). IfSome now (λ d. AtEachMoment mid past' new (λ t. KeepsBatches plan' s d t))) at_site read)

      on : (d t : DiskState) → KeepsPayloads d (at_rest (opened d.bytes)) → KeepsBatches plan site (at_rest (opened d.bytes)) t → KeepsBatches plan site d t
      on d t keeps later = keeps_trans plan site d (at_rest (opened d.bytes)) t (payloads_keep plan site d (at_rest (opened d.bytes)) keeps) (rest_image (opened d.bytes)) later

      pub whole_moments : IfSome old (λ d. AtEachMoment past mid now (λ t. (t ≡ d) ⊎ KeepsPayloads d t))
          → IfSome old (λ d. AtEachMoment past past' new (λ t. (t ≡ d) ⊎ KeepsBatches plan site d t))
      whole_moments moments = by_state old new told kept
          (subst (λ (s : Option DiskState). IfSome old (λ d. AtEachMoment past mid s (λ t. (t ≡ d) ⊎ KeepsPayloads d t))) opens moments)
          (subst (λ (s : Option DiskState). IfSome s (λ d. AtEachMoment mid past' new (λ t. KeepsBatches plan site d t))) opens read_on)
        where
          by_state : (s new : Option DiskState) → is_some new ≡ is_some s → IfSome s (λ d. KeepsPayloads d (at_rest (opened d.bytes)))
              → IfSome s (λ d. AtEachMoment past mid (option_map (λ d. at_rest (opened d.bytes)) s) (λ t. (t ≡ d) ⊎ KeepsPayloads d t))
              → IfSome (option_map (λ d. at_rest (opened d.bytes)) s) (λ d. AtEachMoment mid past' new (λ t. KeepsBatches plan site d t))
              → IfSome s (λ d. AtEachMoment past past' new (λ t. (t ≡ d) ⊎ KeepsBatches plan site d t))
          by_state None new told keeps one two = tt
          by_state (Some d) None told keeps one two = absurd (let clash : false ≡ true = told in cc)
          by_state (Some d) (Some t) told keeps one two =
              moments_join (Before plan site d) past mid past' (at_rest (opened d.bytes)) t
              (moments_weaker (λ s. (s ≡ d) ⊎ KeepsPayloads d s) (Before plan site d) (before_weaker plan site d) past mid (at_rest (opened d.bytes)) one)
              (moments_weaker (λ s. KeepsBatches plan site (at_rest (opened d.bytes)) s) (Before plan site d) (λ s later. inr (on d s keeps later)) mid past' t two)

      pub whole_moments_at_rest : IfSome old (λ d. IsAtRest d → AtEachMoment past mid now (λ t. KeepsPayloads d t))
          → IfSome old (λ d. IsAtRest d → AtEachMoment past past' new (λ t. KeepsBatches plan site d t))
      whole_moments_at_rest moments = by_state old new told kept
          (subst (λ (s : Option DiskState). IfSome old (λ d. IsAtRest d → AtEachMoment past mid s (λ t. KeepsPayloads d t))) opens moments)
          (subst (λ (s : Option DiskState). IfSome s (λ d. AtEachMoment mid past' new (λ t. KeepsBatches plan site d t))) opens read_on)
        where
          by_state : (s new : Option DiskState) → is_some new ≡ is_some s → IfSome s (λ d. KeepsPayloads d (at_rest (opened d.bytes)))
              → IfSome s (λ d. IsAtRest d → AtEachMoment past mid (option_map (λ d. at_rest (opened d.bytes)) s) (λ t. KeepsPayloads d t))
              → IfSome (option_map (λ d. at_rest (opened d.bytes)) s) (λ d. AtEachMoment mid past' new (λ t. KeepsBatches plan site d t))
              → IfSome s (λ d. IsAtRest d → AtEachMoment past past' new (λ t. KeepsBatches plan site d t))
          by_state None new told keeps one two = tt
          by_state (Some d) None told keeps one two = absurd (let clash : false ≡ true = told in cc)
          by_state (Some d) (Some t) told keeps one two = λ rest.
              moments_join (λ s. KeepsBatches plan site d s) past mid past' (at_rest (opened d.bytes)) t
              (moments_weaker (λ s. KeepsPayloads d s) (λ s. KeepsBatches plan site d s) (λ s k. payloads_keep plan site d s k) past mid (at_rest (opened d.bytes)) (one rest))
              (moments_weaker (λ s. KeepsBatches plan site (at_rest (opened d.bytes)) s) (λ s. KeepsBatches plan site d s) (λ s later. on d s keeps later) mid past' t two)
