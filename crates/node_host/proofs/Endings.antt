-- What a disk reads as decides how an opening ends.
use Rattle.std.proofs.Common.{◌≡◌, ◌⊎◌, ◌∙◌, refl, sym, ap, subst, inl, inr, ℕ, ◌<◌, ◌≤◌, List, [], ◌∷◌, ◌++◌, length, Result, Ok, Err, IsErrOf, arith, length-append}
use Rattle.helios_model.specs.declared.entries.Entry.{Entry}
use Rattle.helios_model.specs.declared.records.Record.{Record}
use Rattle.helios_model.specs.Plans.{PlanData}
use Rattle.node_journal.specs.Frames.{HoldsFrame, LeadsNowhere, StandsFor}
use Rattle.node_journal.specs.Laws.{GoesOn, NextOfList, NoFrame, NoList, OneFrame, OneList, OneReading}
use Rattle.log_records.specs.declared.heads.Head.{Head}
use Rattle.log_records.specs.Heads.{head_of}
use Rattle.commit_offsets.specs.Fingerprint.{fingerprint_of}
use Rattle.node_host.specs.declared.fault.HostFault.{HostFault}
use Rattle.node_host.specs.declared.fault.HostFault.TheVariants.{DiskFailed, Damaged, JournalFull, WrongPlan, WrongSite, NoMemory}
use Rattle.node_host.specs.declared.host.Opened.{Opened}
use Rattle.node_host.specs.Journals.{HoldsBatches, IsJournal, head_for}
use Rattle.node_host.specs.Opening.{IsDamagedAt, IsHead, IsNone}
use Rattle.node_host.specs.Kept.{GivesLog, IsDecidedLog, kept_log}
use Rattle.node_host.specs.Openings.{BeginsWith, EndAlike, GivesHeld, IsDecided, IsRefusal, Opens, Stops}
use Rattle.node_host.proofs.Damages.{not_damaged, not_none, own_head}
use Rattle.node_host.proofs.Holdings.{holding_is_one}
use Rattle.node_host.proofs.Standing.{read_none, stops_opening}

no_more : (payloads rest : List (List ℕ)) (payload : List ℕ) → [] ≡ payloads ++ payload ∷ rest → ⊥
no_more [] rest payload is = absurd (let clash : [] ≡ payload ∷ rest = is in cc)
no_more (p ∷ payloads) rest payload is = absurd (let clash : [] ≡ p ∷ (payloads ++ payload ∷ rest) = is in cc)

module _ (reading : OneReading) (frame : OneFrame) (nowhere_none : NoFrame) (next : NextOfList) (none : NoList) (plan : PlanData) (site : ℕ) where
  -- an image that stands for nothing holds no batch
  nothing : (bytes : List ℕ) → StandsFor bytes [] → HoldsBatches plan site [] bytes
  nothing bytes stands = record { payloads = []; stands = stands; journal = refl }

  -- no journal goes on behind a place that is damaged
  goes_past : (bytes : List ℕ) (at : ℕ) (damaged : IsDamagedAt plan site bytes at) (others : List (List ℕ)) (batches : List (List Entry)) → IsJournal plan site others batches
      → GoesOn bytes at damaged.payloads others → ⊥
  goes_past bytes at damaged others batches journal on = elim damaged.damage [
    | inl nowhere ↦ nowhere_none bytes at on.payload nowhere on.frame
    | inr there ↦ not_none plan site damaged.payloads on.rest on.payload batches (subst (λ ps. IsJournal plan site ps batches) on.goes_on journal)
        (subst (λ p. IsNone plan site damaged.payloads p) (frame bytes at there.0 on.payload there.1 on.frame) there.2)
  ]

  -- bytes are damaged at one place
  same_place : (bytes : List ℕ) (at other : ℕ) → IsDamagedAt plan site bytes at → IsDamagedAt plan site bytes other → at ≡ other
  same_place bytes at other damaged damaged' = elim (reading bytes at other damaged.payloads damaged'.payloads damaged.read damaged'.read) [
    | inl same ↦ same.0
    | inr more ↦ elim more [
      | inl on ↦ absurd (goes_past bytes at damaged damaged'.payloads damaged'.batches damaged'.journal on)
      | inr on ↦ absurd (goes_past bytes other damaged' damaged.payloads damaged.batches damaged.journal on)
    ]
  ]

  same_head : (bytes : List ℕ) (head other : Head) → BeginsWith bytes head → BeginsWith bytes other → head ≡ other
  same_head bytes head other begins begins' =
      let same : begins.payload ≡ begins'.payload = frame bytes 0 begins.payload begins'.payload begins.frame begins'.frame in
      let both : Ok head ≡ Ok other = sym begins.is.read ∙ ap head_of same ∙ begins'.is.read in
      cc both

  -- where damage stands behind a head, the head is the plan's and the site's
  headed : (bytes : List ℕ) (at : ℕ) (head : Head) → IsDamagedAt plan site bytes at → BeginsWith bytes head → head ≡ head_for plan site
  headed bytes at head damaged begins =
      elim (reading bytes 0 at [] damaged.payloads (read_none bytes (omega (arith, begins.long))) damaged.read) [
        | inl same ↦ absurd (at_head same.0 same.1)
        | inr more ↦ elim more [ inl on ↦ by_first on | inr on ↦ absurd (no_more damaged.payloads on.rest on.payload on.goes_on) ]
      ]
    where
      at_head : 0 ≡ at → [] ≡ damaged.payloads → ⊥
      at_head zero empty = elim damaged.damage [
        | inl nowhere ↦ nowhere_none bytes 0 begins.payload (subst (λ (n : ℕ). LeadsNowhere bytes n) (sym zero) nowhere) begins.frame
        | inr there ↦ (subst (λ ps. IsNone plan site ps there.0) (sym empty) there.2) head
            (subst (λ (p : List ℕ). IsHead p head) (frame bytes 0 begins.payload there.0 begins.frame (subst (λ (n : ℕ). HoldsFrame bytes n there.0) (sym zero) there.1)) begins.is)
      ]

      by_first : GoesOn bytes 0 [] damaged.payloads → head ≡ head_for plan site
      by_first on =
          let journal : IsJournal plan site (on.payload ∷ on.rest) damaged.batches = subst (λ ps. IsJournal plan site ps damaged.batches) on.goes_on damaged.journal in
          let same : begins.payload ≡ on.payload = frame bytes 0 begins.payload on.payload begins.frame on.frame in
          let both : Ok head ≡ Ok (head_for plan site) = sym begins.is.read ∙ ap head_of same ∙ journal.0 in
          cc both

  not_wrong_plan : (limit : ℕ) (bytes : List ℕ) (kept given : List ℕ) → ((head : Head) → BeginsWith bytes head → head ≡ head_for plan site)
      → Opens plan site limit bytes (Err (WrongPlan kept given)) → ⊥
  not_wrong_plan limit bytes kept given own ends = ends.4 (sym ends.2 ∙ ap (λ (h : Head). h.fingerprint) (own ends.0 ends.1) ∙ sym ends.3)

  not_wrong_site : (limit : ℕ) (bytes : List ℕ) (kept given : ℕ) → ((head : Head) → BeginsWith bytes head → head ≡ head_for plan site)
      → Opens plan site limit bytes (Err (WrongSite kept given)) → ⊥
  not_wrong_site limit bytes kept given own ends = ends.5 (sym ends.3 ∙ ap (λ (h : Head). h.site) (own ends.0 ends.1) ∙ sym ends.4)

  -- a journal of this site of this plan with room for a head is not refused
  not_refused : (limit : ℕ) (bytes : List ℕ) (batches : List (List Entry)) (fault : HostFault) → HoldsBatches plan site batches bytes → (StandsFor bytes [] → 40 ≤ limit)
      → IsDecided (Err fault) → Opens plan site limit bytes (Err fault) → ⊥
  not_refused limit bytes batches DiskFailed holds roomy decided ends = decided
  not_refused limit bytes batches (Damaged at) holds roomy decided ends = not_damaged next none plan site bytes batches holds at ends.0 ends.1
  not_refused limit bytes batches JournalFull holds roomy decided ends = let room : 40 ≤ limit = roomy ends.0 in let short : limit < 40 = ends.1 in omega arith
  not_refused limit bytes batches (WrongPlan kept given) holds roomy decided ends = not_wrong_plan limit bytes kept given (own_head next none plan site bytes batches holds) ends
  not_refused limit bytes batches (WrongSite kept given) holds roomy decided ends = not_wrong_site limit bytes kept given (own_head next none plan site bytes batches holds) ends
  not_refused limit bytes batches NoMemory holds roomy decided ends = decided

  -- what excludes each other
  damaged_or_full : (limit : ℕ) (bytes : List ℕ) (at : ℕ) → Opens plan site limit bytes (Err (Damaged at)) → Opens plan site limit bytes (Err JournalFull) → ⊥
  damaged_or_full limit bytes at ends ends' = not_damaged next none plan site bytes [] (nothing bytes ends'.0) at ends.0 ends.1

  plan_or_site : (limit : ℕ) (bytes kept given : List ℕ) (kept' given' : ℕ) → Opens plan site limit bytes (Err (WrongPlan kept given))
      → Opens plan site limit bytes (Err (WrongSite kept' given')) → ⊥
  plan_or_site limit bytes kept given kept' given' ends ends' =
      ends.4 (sym ends.2 ∙ ap (λ (h : Head). h.fingerprint) (same_head bytes ends.0 ends'.0 ends.1 ends'.1) ∙ ends'.2 ∙ sym ends.3)

  same_plans : (limit : ℕ) (bytes kept given kept' given' : List ℕ) → Opens plan site limit bytes (Err (WrongPlan kept given))
      → Opens plan site limit bytes (Err (WrongPlan kept' given')) → WrongPlan kept given ≡ WrongPlan kept' given'
  same_plans limit bytes kept given kept' given' ends ends' =
      let head : kept ≡ kept' = sym ends.2 ∙ ap (λ (h : Head). h.fingerprint) (same_head bytes ends.0 ends'.0 ends.1 ends'.1) ∙ ends'.2 in
      let own : given ≡ given' = ends.3 ∙ sym ends'.3 in
      ap (λ (k : List ℕ). WrongPlan k given) head ∙ ap (λ (g : List ℕ). WrongPlan kept' g) own

  same_sites : (limit : ℕ) (bytes : List ℕ) (kept given kept' given' : ℕ) → Opens plan site limit bytes (Err (WrongSite kept given))
      → Opens plan site limit bytes (Err (WrongSite kept' given')) → WrongSite kept given ≡ WrongSite kept' given'
  same_sites limit bytes kept given kept' given' ends ends' =
      let head : kept ≡ kept' = sym ends.3 ∙ ap (λ (h : Head). h.site) (same_head bytes ends.0 ends'.0 ends.1 ends'.1) ∙ ends'.3 in
      let own : given ≡ given' = ends.4 ∙ sym ends'.4 in
      ap (λ (k : ℕ). WrongSite k given) head ∙ ap (λ (g : ℕ). WrongSite kept' g) own

  -- two faults that the bytes decide are the same
  same_fault : (limit : ℕ) (bytes : List ℕ) (fault other : HostFault) → Opens plan site limit bytes (Err fault) → Opens plan site limit bytes (Err other)
      → IsDecided (Err fault) → IsDecided (Err other) → fault ≡ other
  same_fault limit bytes DiskFailed other ends ends' decided decided' = absurd decided
  same_fault limit bytes NoMemory other ends ends' decided decided' = absurd decided
  same_fault limit bytes (Damaged at) DiskFailed ends ends' decided decided' = absurd decided'
  same_fault limit bytes (Damaged at) (Damaged other) ends ends' decided decided' = ap (λ (n : ℕ). Damaged n) (same_place bytes at other ends.1 ends'.1)
  same_fault limit bytes (Damaged at) JournalFull ends ends' decided decided' = absurd (damaged_or_full limit bytes at ends ends')
  same_fault limit bytes (Damaged at) (WrongPlan kept given) ends ends' decided decided' =
      absurd (not_wrong_plan limit bytes kept given (λ head begins. headed bytes at head ends.1 begins) ends')
  same_fault limit bytes (Damaged at) (WrongSite kept given) ends ends' decided decided' =
      absurd (not_wrong_site limit bytes kept given (λ head begins. headed bytes at head ends.1 begins) ends')
  same_fault limit bytes (Damaged at) NoMemory ends ends' decided decided' = absurd decided'
  same_fault limit bytes JournalFull DiskFailed ends ends' decided decided' = absurd decided'
  same_fault limit bytes JournalFull (Damaged other) ends ends' decided decided' = absurd (damaged_or_full limit bytes other ends' ends)
  same_fault limit bytes JournalFull JournalFull ends ends' decided decided' = refl
  same_fault limit bytes JournalFull (WrongPlan kept given) ends ends' decided decided' =
      absurd (not_wrong_plan limit bytes kept given (own_head next none plan site bytes [] (nothing bytes ends.0)) ends')
  same_fault limit bytes JournalFull (WrongSite kept given) ends ends' decided decided' =
      absurd (not_wrong_site limit bytes kept given (own_head next none plan site bytes [] (nothing bytes ends.0)) ends')
  same_fault limit bytes JournalFull NoMemory ends ends' decided decided' = absurd decided'
  same_fault limit bytes (WrongPlan kept given) DiskFailed ends ends' decided decided' = absurd decided'
  same_fault limit bytes (WrongPlan kept given) (Damaged other) ends ends' decided decided' =
      absurd (not_wrong_plan limit bytes kept given (λ head begins. headed bytes other head ends'.1 begins) ends)
  same_fault limit bytes (WrongPlan kept given) JournalFull ends ends' decided decided' =
      absurd (not_wrong_plan limit bytes kept given (own_head next none plan site bytes [] (nothing bytes ends'.0)) ends)
  same_fault limit bytes (WrongPlan kept given) (WrongPlan kept' given') ends ends' decided decided' = same_plans limit bytes kept given kept' given' ends ends'
  same_fault limit bytes (WrongPlan kept given) (WrongSite kept' given') ends ends' decided decided' = absurd (plan_or_site limit bytes kept given kept' given' ends ends')
  same_fault limit bytes (WrongPlan kept given) NoMemory ends ends' decided decided' = absurd decided'
  same_fault limit bytes (WrongSite kept given) DiskFailed ends ends' decided decided' = absurd decided'
  same_fault limit bytes (WrongSite kept given) (Damaged other) ends ends' decided decided' =
      absurd (not_wrong_site limit bytes kept given (λ head begins. headed bytes other head ends'.1 begins) ends)
  same_fault limit bytes (WrongSite kept given) JournalFull ends ends' decided decided' =
      absurd (not_wrong_site limit bytes kept given (own_head next none plan site bytes [] (nothing bytes ends'.0)) ends)
  same_fault limit bytes (WrongSite kept given) (WrongPlan kept' given') ends ends' decided decided' = absurd (plan_or_site limit bytes kept' given' kept given ends' ends)
  same_fault limit bytes (WrongSite kept given) (WrongSite kept' given') ends ends' decided decided' = same_sites limit bytes kept given kept' given' ends ends'
  same_fault limit bytes (WrongSite kept given) NoMemory ends ends' decided decided' = absurd decided'

  -- two openings end alike
  pub one_end : (limit : ℕ) (bytes : List ℕ) (result other : Result Opened HostFault) → Opens plan site limit bytes result → Opens plan site limit bytes other
      → GivesHeld plan site bytes result → GivesHeld plan site bytes other → IsDecided result → IsDecided other → EndAlike result other
  one_end limit bytes (Ok opened) (Ok other) ends ends' gives gives' decided decided' =
      let first = gives ends.0 ends.1 in
      let second = gives' ends.0 ends.1 in
      (first.number ∙ sym second.number, first.last ∙ sym second.last)
  one_end limit bytes (Ok opened) (Err fault) ends ends' gives gives' decided decided' = not_refused limit bytes ends.0 fault ends.1 ends.2 decided' ends'
  one_end limit bytes (Err fault) (Ok opened) ends ends' gives gives' decided decided' = not_refused limit bytes ends'.0 fault ends'.1 ends'.2 decided ends
  one_end limit bytes (Err fault) (Err other) ends ends' gives gives' decided decided' = same_fault limit bytes fault other ends ends' decided decided'

  -- a refusal is decided by the bytes
  refusal_decides : (fault : HostFault) → IsRefusal fault → IsDecided (Err fault)
  refusal_decides DiskFailed is = is
  refusal_decides (Damaged at) is = tt
  refusal_decides JournalFull is = tt
  refusal_decides (WrongPlan kept given) is = tt
  refusal_decides (WrongSite kept given) is = tt
  refusal_decides NoMemory is = is

  -- a journal that is refused gives no records, and is refused alike
  refused_alike : (bytes : List ℕ) (fault : HostFault) (other : Result (List Record) HostFault) → IsRefusal fault → Stops plan site bytes fault → GivesLog plan site bytes other
      → IsDecidedLog other → Err fault ≡ other
  refused_alike bytes fault (Ok records) refusal stops gives decided =
      absurd (not_refused 40 bytes gives.0 fault gives.1 (λ none. omega arith) (refusal_decides fault refusal) (stops_opening plan site 40 bytes fault stops))
  refused_alike bytes fault (Err other) refusal stops gives decided =
      ap Err (same_fault 40 bytes fault other (stops_opening plan site 40 bytes fault stops) (stops_opening plan site 40 bytes other gives)
      (refusal_decides fault refusal) (refusal_decides other decided))

  -- what gives records is what the bytes decide
  pub one_log : OneList → (bytes : List ℕ) (result decided : Result (List Record) HostFault) → GivesLog plan site bytes result → GivesLog plan site bytes decided → IsDecidedLog decided
      → (result ≡ decided) ⊎ IsErrOf result DiskFailed ⊎ IsErrOf result NoMemory
  one_log one bytes (Ok records) (Ok others) gives gives' is =
      let same : gives.0 ≡ gives'.0 = holding_is_one one plan site bytes gives.0 gives'.0 gives.1 gives'.1 in
      inl (ap Ok (gives.2 ∙ ap (λ bs. kept_log plan site bs) same ∙ sym gives'.2))
  one_log one bytes (Ok records) (Err fault) gives gives' is = inl (sym (refused_alike bytes fault (Ok records) is gives' gives tt))
  one_log one bytes (Err DiskFailed) decided gives gives' is = inr (inl refl)
  one_log one bytes (Err (Damaged at)) decided gives gives' is = inl (refused_alike bytes (Damaged at) decided tt gives gives' is)
  one_log one bytes (Err JournalFull) decided gives gives' is = absurd gives
  one_log one bytes (Err (WrongPlan kept given)) decided gives gives' is = inl (refused_alike bytes (WrongPlan kept given) decided tt gives gives' is)
  one_log one bytes (Err (WrongSite kept given)) decided gives gives' is = inl (refused_alike bytes (WrongSite kept given) decided tt gives gives' is)
  one_log one bytes (Err NoMemory) decided gives gives' is = inr (inr refl)
