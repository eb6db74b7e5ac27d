-- A journal of a site of a plan is not refused.
use Rattle.std.proofs.Common.{◌≡◌, ◌⊎◌, ◌∙◌, refl, sym, ap, subst, inl, inr, ℕ, ◌<◌, ◌≤◌, List, [], ◌∷◌, ◌++◌, length, Ok, Err, arith}
use Rattle.helios_model.specs.declared.entries.Entry.{Entry}
use Rattle.helios_model.specs.Plans.{PlanData}
use Rattle.node_journal.specs.Frames.{HoldsFrame}
use Rattle.node_journal.specs.Laws.{NextOfList, NoList}
use Rattle.log_records.specs.declared.heads.Head.{Head}
use Rattle.node_host.specs.declared.fault.HostFault.{HostFault}
use Rattle.node_host.specs.declared.fault.HostFault.TheVariants.{DiskFailed, Damaged, JournalFull, WrongPlan, WrongSite, NoMemory}
use Rattle.node_host.specs.Journals.{AreBatches, HoldsBatches, IsBatchPayload, IsJournal, head_for}
use Rattle.node_host.specs.Opening.{IsDamagedAt, IsNone}
use Rattle.node_host.specs.Openings.{BeginsWith, Opens}
use Rattle.node_host.proofs.Standing.{read_none}

-- a payload among those that spell batches spells one
one_of_them : (plan : PlanData) (site : ℕ) (before behind : List (List ℕ)) (payload : List ℕ) (batches : List (List Entry)) → AreBatches plan site (before ++ payload ∷ behind) batches
    → (batch : List Entry) × IsBatchPayload plan site payload batch
one_of_them plan site [] behind payload [] are = absurd are
one_of_them plan site [] behind payload (b ∷ batches) are = (b, are.0)
one_of_them plan site (p ∷ before) behind payload [] are = absurd are
one_of_them plan site (p ∷ before) behind payload (b ∷ batches) are = one_of_them plan site before behind payload batches are.1

-- a payload within a journal is the head, or a batch
pub not_none : (plan : PlanData) (site : ℕ) (before behind : List (List ℕ)) (payload : List ℕ) (batches : List (List Entry)) → IsJournal plan site (before ++ payload ∷ behind) batches
    → IsNone plan site before payload → ⊥
not_none plan site [] behind payload batches is none = none (head_for plan site) (record { read = is.0; form = refl })
not_none plan site (head ∷ before) behind payload batches is none =
    let one = one_of_them plan site before behind payload batches is.1 in
    none one.0 one.1

module _ (next : NextOfList) (none : NoList) (plan : PlanData) (site : ℕ) (bytes : List ℕ) (batches : List (List Entry)) (holds : HoldsBatches plan site batches bytes) where
  pub not_damaged : (at : ℕ) → 1 < length bytes → IsDamagedAt plan site bytes at → ⊥
  not_damaged at long damaged = elim damaged.damage [
    | inl nowhere ↦ none bytes at damaged.payloads holds.payloads long damaged.read nowhere holds.stands
    | inr frame ↦ by_frame frame.0 frame.1 frame.2
  ]
    where
      by_frame : (payload : List ℕ) → HoldsFrame bytes at payload → IsNone plan site damaged.payloads payload → ⊥
      by_frame payload holds_frame is_none =
          let more = next bytes at damaged.payloads holds.payloads payload damaged.read holds_frame holds.stands in
          not_none plan site damaged.payloads more.0 payload batches (subst (λ ps. IsJournal plan site ps batches) more.1 holds.journal) is_none

  -- the head that it begins with is the plan's and the site's
  pub own_head : (head : Head) → BeginsWith bytes head → head ≡ head_for plan site
  own_head head begins =
      let more = next bytes 0 [] holds.payloads begins.payload (read_none bytes (omega (arith, begins.long))) begins.frame holds.stands in
      let journal : IsJournal plan site (begins.payload ∷ more.0) batches = subst (λ ps. IsJournal plan site ps batches) more.1 holds.journal in
      let both : Ok head ≡ Ok (head_for plan site) = sym begins.is.read ∙ journal.0 in
      cc both

  -- what may be answered of it
  pub own_ends : (limit : ℕ) (fault : HostFault) → 40 ≤ limit → Opens plan site limit bytes (Err fault) → (fault ≡ DiskFailed) ⊎ (fault ≡ NoMemory)
  own_ends limit DiskFailed roomy ends = inl refl
  own_ends limit (Damaged at) roomy ends = absurd (not_damaged at ends.0 ends.1)
  own_ends limit JournalFull roomy ends = absurd (let short : limit < 40 = ends.1 in omega arith)
  own_ends limit (WrongPlan kept given) roomy ends =
      absurd (ends.4 (sym ends.2 ∙ ap (λ (h : Head). h.fingerprint) (own_head ends.0 ends.1) ∙ sym ends.3))
  own_ends limit (WrongSite kept given) roomy ends =
      absurd (ends.5 (sym ends.3 ∙ ap (λ (h : Head). h.site) (own_head ends.0 ends.1) ∙ sym ends.4))
  own_ends limit NoMemory roomy ends = inr refl
