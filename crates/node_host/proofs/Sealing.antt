-- What the seal of a batch leaves of a disk, and what the disk holds then.
use Rattle.std.proofs.Common.{◌≡◌, ◌∙◌, ap, refl, sym, subst, ◌⊎◌, inl, inr, ℕ, ◌+◌, ◌≤◌, nat_le, ◌&&◌, true, false, List, [], ◌∷◌, ◌++◌, All, length, Option, Some, None, Result, Ok, Err, option_map, is_some, is_ok, IfSome, IsErrOf, arith, length-append, get_or}
use Rattle.std.specs.Option.{ForSome}
use Rattle.std.proofs.lemmas.List.Elements.{All-filter, filter_passes}
use Rattle.std.proofs.lemmas.List.Sums.{length-filter, count_by-le-length}
use Rattle.helios_model.specs.declared.entries.Entry.{Entry}
use Rattle.helios_model.specs.declared.entries.Input.{Input}
use Rattle.helios_model.specs.declared.entries.Input.TheVariants.{Get, Status, Request, Pull, Push}
use Rattle.helios_model.specs.declared.entries.Reply.{Reply}
use Rattle.helios_model.specs.declared.records.CommitEvent.{CommitEvent}
use Rattle.helios_model.specs.Limits.{most_inputs}
use Rattle.helios_model.specs.Node.{Node}
use Rattle.helios_model.specs.Plans.{PlanData, count_of}
use Rattle.helios_model.specs.Spellable.{IsSpellableEntry, IsSpellableInput}
use Rattle.helios_model.specs.Step.{MayBeAsked, after_entries, is_journaled}
use Rattle.helios_model.specs.World.{grown, journaled}
use Rattle.commit_rules.specs.Core.{CoreState, IsCoreOf}
use Rattle.disk_store.specs.Disk.{DiskState, EachImage, IsImage, at_rest}
use Rattle.disk_store.specs.Moments.{AtEachMoment}
use Rattle.disk_store.specs.Outlook.{Outlook}
use Rattle.disk_store.specs.Laws.Moments.{Past, moments_start, moments_weaker}
use Rattle.disk_store.specs.Laws.Writes.{rest_images}
use Rattle.node_journal.specs.Frames.{EndsAt, IsReadTo, StandsFor}
use Rattle.node_journal.specs.Appending.{IsBeforeOrAfter, IsReady, end_of, lasts, sealed}
use Rattle.node_journal.specs.Positions.{Position}
use Rattle.log_records.specs.Entries.{IsSpellableBatch, batch_bytes, batch_of, entries_at}
use Rattle.node_host.specs.declared.fault.HostFault.{HostFault}
use Rattle.node_host.specs.declared.fault.HostFault.TheVariants.{NoMemory}
use Rattle.node_host.specs.declared.host.Batched.{Batched}
use Rattle.node_host.specs.Answering.{HasAnswered}
use Rattle.node_host.specs.Hosts.{HaveReadings, IsEndOf, IsHostOn, MayHold, payload_of, with_payload}
use Rattle.node_host.specs.Journals.{AreAsked, HoldsBatches, IsBatchPayload, IsJournal}
use Rattle.node_host.specs.Recovery.{recovered}
use Rattle.node_host.specs.States.{HostState}
use Rattle.node_host.proofs.Answers.{answered_as}
use Rattle.node_host.proofs.Holdings.{journal_push}
use Rattle.node_host.proofs.Suffice.{journaled_suffice}
use Rattle.node_host.proofs.Taking.{answered_none, recovered_push}

-- ---- the seal, over payloads

-- a disk with nothing pending stands for what it reads as
ready_stands : (gate : ℕ) (payloads : List (List ℕ)) (disk : DiskState) → IsReady disk gate → IsReadTo disk.bytes gate payloads → EachImage disk (λ image. StandsFor image payloads)
ready_stands gate payloads disk ready read image is =
    let rest : IsImage (at_rest disk.bytes) image = subst (λ (d : DiskState). IsImage d image) ready.at_rest is in
    subst (λ (bytes : List ℕ). StandsFor bytes payloads) (sym (rest_images disk.bytes image rest)) (inr (gate, record { read = read; closed = ready.closed }))

pub with_some : (payloads : List (List ℕ)) (es : List Entry) → 1 ≤ length es → with_payload payloads es ≡ payloads ++ batch_bytes es ∷ []
with_some payloads [] some = absurd (omega arith)
with_some payloads (e ∷ es) some = refl

-- nothing was done on the disk
pub idle_moments : (gate : ℕ) (entries : List Entry) (past : Past) (disk : Option DiskState) → ForSome disk (λ d. IsReady d gate)
    → IfSome disk (λ d. (payloads : List (List ℕ)) → EndsAt d.bytes gate payloads → AtEachMoment past past disk (λ t. EachImage t (MayHold payloads entries)))
idle_moments gate entries past None ready = tt
idle_moments gate entries past (Some d) ready = λ payloads ends.
    moments_start (λ t. EachImage t (MayHold payloads entries)) past d (λ image is. inl (ready_stands gate payloads d (ready d refl) ends.read image is))

-- the payload of a batch was appended, or that failed
pub sealed_moments : (gate : ℕ) (frame : List ℕ) (entries : List Entry) → frame ≡ batch_bytes entries → 1 ≤ length entries → HaveReadings entries
    → (past past' : Past) (old new : Option DiskState) → is_some new ≡ is_some old
    → IfSome old (λ d. (payloads : List (List ℕ)) → IsReadTo d.bytes gate payloads → AtEachMoment past past' new (λ t. EachImage t (IsBeforeOrAfter payloads frame)))
    → IfSome old (λ d. (payloads : List (List ℕ)) → EndsAt d.bytes gate payloads → AtEachMoment past past' new (λ t. EachImage t (MayHold payloads entries)))
sealed_moments gate frame entries same some readings past past' None new told moments = tt
sealed_moments gate frame entries same some readings past past' (Some d) None told moments = absurd (let clash : false ≡ true = told in cc)
sealed_moments gate frame entries same some readings past past' (Some d) (Some t) told moments = λ payloads ends.
    moments_weaker (λ s. EachImage s (IsBeforeOrAfter payloads frame)) (λ s. EachImage s (MayHold payloads entries))
    (λ s each image is. holds payloads image (each image is)) past past' t (moments payloads ends.read)
  where
    whole : (payloads : List (List ℕ)) → payloads ++ frame ∷ [] ≡ with_payload payloads entries
    whole payloads = ap (λ (l : List ℕ). payloads ++ l ∷ []) same ∙ sym (with_some payloads entries some)

    holds : (payloads : List (List ℕ)) (image : List ℕ) → IsBeforeOrAfter payloads frame image → MayHold payloads entries image
    holds payloads image (inl stands) = inl stands
    holds payloads image (inr stands) = inr (readings, subst (λ (ps : List (List ℕ)). StandsFor image ps) (whole payloads) stands)

-- the payload of a batch was appended
pub sealed_ends : (gate : ℕ) (frame : List ℕ) (entries : List Entry) → frame ≡ batch_bytes entries → 1 ≤ length entries
    → (old new : Option DiskState) (next : ℕ) → new ≡ option_map (λ d. at_rest (sealed gate frame d.bytes)) old
    → IfSome old (λ d. (payloads : List (List ℕ)) → IsReadTo d.bytes gate payloads → EndsAt (sealed gate frame d.bytes) (gate + 5 + length frame) (payloads ++ frame ∷ []))
    → next ≡ gate + 5 + length frame
    → IfSome old (λ d. (payloads : List (List ℕ)) → EndsAt d.bytes gate payloads → ForSome new (IsEndOf next (with_payload payloads entries)))
sealed_ends gate frame entries same some None new next is added at = tt
sealed_ends gate frame entries same some (Some d) new next is added at = λ payloads ends t told.
    let left : t ≡ at_rest (sealed gate frame d.bytes) = let both : Some t ≡ Some (at_rest (sealed gate frame d.bytes)) = sym told ∙ is in cc in
    let whole : payloads ++ frame ∷ [] ≡ with_payload payloads entries = ap (λ (l : List ℕ). payloads ++ l ∷ []) same ∙ sym (with_some payloads entries some) in
    subst (λ (s : DiskState). IsEndOf next (with_payload payloads entries) s) (sym left)
    (record {
      ends = subst (λ (ps : List (List ℕ)). EndsAt (sealed gate frame d.bytes) next ps) whole
          (subst (λ (n : ℕ). EndsAt (sealed gate frame d.bytes) n (payloads ++ frame ∷ [])) (sym at) (added payloads ends.read));
      at_rest = refl;
    })

-- ---- the batch

abbrev pub ReadAgain : Type 0
ReadAgain = (count : ℕ) (entries : List Entry) → IsSpellableBatch count entries
    → (batch_of count (batch_bytes entries) ≡ Ok entries) × ((whole : ℕ) (rest : List ℕ) → entries_at count whole (batch_bytes entries ++ rest) ≡ Ok (entries, rest))

spelled : (plan : PlanData) (site : ℕ) (input : Input) → is_journaled input ≡ true → MayBeAsked plan site input → IsSpellableInput (count_of plan) input
spelled plan site (Get key) is may = absurd (let clash : false ≡ true = is in cc)
spelled plan site (Status id) is may = absurd (let clash : false ≡ true = is in cc)
spelled plan site (Request ask) is may = may
spelled plan site (Pull to) is may = may.below
spelled plan site (Push m) is may = may.message

module _ (law : ReadAgain) (plan : PlanData) (site : ℕ) (entries : List Entry) (few : length entries ≤ most_inputs) (asked : AreAsked plan site entries) where
  abbrev kept : List Entry
  kept = journaled entries

  kept_asked : AreAsked plan site kept
  kept_asked = All-filter (λ e. is_journaled e.input) (λ e. MayBeAsked plan site e.input) entries asked

  pub kept_few : length kept ≤ most_inputs
  kept_few = omega (arith, few, length-filter (λ e. is_journaled e.input) entries, count_by-le-length (λ e. is_journaled e.input) entries)

  pub kept_inputs : All (λ e. IsSpellableInput (count_of plan) e.input) kept
  kept_inputs = λ k d low. spelled plan site (get_or kept k d).input (filter_passes (λ e. is_journaled e.input) entries k d low) (kept_asked k d low)

  kept_spellable : HaveReadings kept → All (IsSpellableEntry (count_of plan)) kept
  kept_spellable readings = λ k d low. record {
    reading = readings k d low;
    input = kept_inputs k d low;
  }

  -- the journaled ones of what a site may be asked are a batch of its journal
  pub kept_batch : HaveReadings kept → 1 ≤ length kept → IsBatchPayload plan site (batch_bytes kept) kept
  kept_batch readings some = record {
    read = (law (count_of plan) kept (record {
      some = some;
      few = kept_few;
      each = kept_spellable readings;
    })).0;
    spelled = refl;
    each = kept_asked;
  }

  -- a journal goes on with these entries
  pub journal_grows : HaveReadings kept → (payloads : List (List ℕ)) (batches : List (List Entry)) → 1 ≤ length payloads → IsJournal plan site payloads batches
      → IsJournal plan site (with_payload payloads kept) (grown batches kept)
  journal_grows readings payloads batches headed is = grows kept payloads (kept_batch readings) headed is
    where
      grows : (es : List Entry) (payloads : List (List ℕ)) → (1 ≤ length es → IsBatchPayload plan site (batch_bytes es) es) → 1 ≤ length payloads → IsJournal plan site payloads batches
          → IsJournal plan site (with_payload payloads es) (grown batches es)
      grows [] payloads batch headed is = is
      grows (e ∷ es) [] batch headed is = absurd (omega arith)
      grows (e ∷ es) (head ∷ payloads) batch headed is = journal_push plan site head payloads batches (batch_bytes (e ∷ es)) (e ∷ es) is (batch (omega arith))

-- what is recovered of a journal that went on with the journaled entries is the node after all entries
recovered_grows : (plan : PlanData) (site : ℕ) (batches : List (List Entry)) (entries : List Entry)
    → (recovered plan site (grown batches (journaled entries))).node ≡ after_entries plan (recovered plan site batches).node entries
recovered_grows plan site batches entries = grows (journaled entries) ∙ journaled_suffice plan (recovered plan site batches).node entries
  where
    grows : (es : List Entry) → (recovered plan site (grown batches es)).node ≡ after_entries plan (recovered plan site batches).node es
    grows [] = refl
    grows (e ∷ es) = ap (λ r. r.node) (recovered_push plan site batches (e ∷ es))

length_grows : (payloads : List (List ℕ)) (es : List Entry) → 1 ≤ length payloads → 1 ≤ length (with_payload payloads es)
length_grows payloads [] headed = headed
length_grows payloads (e ∷ es) headed = omega (arith, length-append payloads (batch_bytes (e ∷ es) ∷ []))

module _ (law : ReadAgain) (host : HostState) (entries : List Entry) (few : length entries ≤ most_inputs) (asked : AreAsked host.core.plan host.core.site entries) where
  -- at each moment the disk holds the batches before, or these and the new one
  pub host_moments : (past past' : Past) (old new : Option DiskState) → is_some new ≡ is_some old
      → IfSome old (λ d. (payloads : List (List ℕ)) → EndsAt d.bytes host.gate payloads → AtEachMoment past past' new (λ t. EachImage t (MayHold payloads (journaled entries))))
      → IfSome old (λ d. (batches : List (List Entry)) → IsHostOn host batches d → AtEachMoment past past' new (λ t. EachImage t (λ image.
      HoldsBatches host.core.plan host.core.site batches image ⊎ HoldsBatches host.core.plan host.core.site (grown batches (journaled entries)) image)))
  host_moments past past' None new told moments = tt
  host_moments past past' (Some d) None told moments = absurd (let clash : false ≡ true = told in cc)
  host_moments past past' (Some d) (Some t) told moments = λ batches on.
      moments_weaker (λ s. EachImage s (MayHold on.payloads (journaled entries)))
      (λ s. EachImage s (λ image. HoldsBatches host.core.plan host.core.site batches image ⊎ HoldsBatches host.core.plan host.core.site (grown batches (journaled entries)) image))
      (λ s each image is. holds batches on image (each image is)) past past' t (moments on.payloads on.ends)
    where
      holds : (batches : List (List Entry)) (on : IsHostOn host batches d) (image : List ℕ) → MayHold on.payloads (journaled entries) image
          → HoldsBatches host.core.plan host.core.site batches image ⊎ HoldsBatches host.core.plan host.core.site (grown batches (journaled entries)) image
      holds batches on image (inl stands) = inl (record { payloads = on.payloads; stands = stands; journal = on.journal })
      holds batches on image (inr both) = inr (record {
        payloads = with_payload on.payloads (journaled entries);
        stands = both.1;
        journal = journal_grows law host.core.plan host.core.site entries few asked both.0 on.payloads batches on.headed on.journal;
      })

  -- the host after the batch stands on the disk as the seal left it
  pub host_stands : HaveReadings (journaled entries) → (after : HostState) → after.core.plan ≡ host.core.plan → after.core.site ≡ host.core.site
      → ((n : Node) → IsCoreOf host.core host.core.plan n → IsCoreOf after.core host.core.plan (after_entries host.core.plan n entries))
      → (old new : Option DiskState)
      → IfSome old (λ d. (payloads : List (List ℕ)) → EndsAt d.bytes host.gate payloads → ForSome new (IsEndOf after.gate (with_payload payloads (journaled entries))))
      → IfSome old (λ d. (batches : List (List Entry)) → IsHostOn host batches d → ForSome new (IsHostOn after (grown batches (journaled entries))))
  host_stands readings after same_plan same_site answered None new ends = tt
  host_stands readings after same_plan same_site answered (Some d) new ends = λ batches on t told.
      let end : IsEndOf after.gate (with_payload on.payloads (journaled entries)) t = ends on.payloads on.ends t told in
      let journal = journal_grows law host.core.plan host.core.site entries few asked readings on.payloads batches on.headed on.journal in
      let node : IsCoreOf after.core host.core.plan (recovered host.core.plan host.core.site (grown batches (journaled entries))).node =
      subst (λ (n : Node). IsCoreOf after.core host.core.plan n) (sym (recovered_grows host.core.plan host.core.site batches entries)) (answered (recovered host.core.plan host.core.site batches).node on.node) in
      record {
        payloads = with_payload on.payloads (journaled entries);
        ends = end.ends;
        headed = length_grows on.payloads (journaled entries) on.headed;
        journal = subst (λ (p : PlanData). IsJournal p after.core.site (with_payload on.payloads (journaled entries)) (grown batches (journaled entries))) (sym same_plan)
            (subst (λ (s : ℕ). IsJournal host.core.plan s (with_payload on.payloads (journaled entries)) (grown batches (journaled entries))) (sym same_site) journal);
        at_rest = end.at_rest;
        node = subst (λ (p : PlanData). IsCoreOf after.core p (recovered p after.core.site (grown batches (journaled entries))).node) (sym same_plan)
            (subst (λ (s : ℕ). IsCoreOf after.core host.core.plan (recovered host.core.plan s (grown batches (journaled entries))).node) (sym same_site) node);
      }

-- ---- a host by what it is made of

module _ (host view : HostState) (is : view ≡ host) where
  pub made_payloads : (entries : List Entry) (past past' : Past) (old new : Option DiskState)
      → IfSome old (λ d. (payloads : List (List ℕ)) → EndsAt d.bytes view.gate payloads → AtEachMoment past past' new (λ t. EachImage t (MayHold payloads (journaled entries))))
      → IfSome old (λ d. (payloads : List (List ℕ)) → EndsAt d.bytes host.gate payloads → AtEachMoment past past' new (λ t. EachImage t (MayHold payloads (journaled entries))))
  made_payloads entries past past' old new moments =
      subst (λ (h : HostState). IfSome old (λ d. (payloads : List (List ℕ)) → EndsAt d.bytes h.gate payloads → AtEachMoment past past' new (λ t. EachImage t (MayHold payloads (journaled entries))))) is moments

  pub made_moments : ReadAgain → (entries : List Entry) → length entries ≤ most_inputs → AreAsked host.core.plan host.core.site entries
      → (past past' : Past) (old new : Option DiskState) → is_some new ≡ is_some old
      → IfSome old (λ d. (payloads : List (List ℕ)) → EndsAt d.bytes view.gate payloads → AtEachMoment past past' new (λ t. EachImage t (MayHold payloads (journaled entries))))
      → IfSome old (λ d. (batches : List (List Entry)) → IsHostOn host batches d → AtEachMoment past past' new (λ t. EachImage t (λ image.
      HoldsBatches host.core.plan host.core.site batches image ⊎ HoldsBatches host.core.plan host.core.site (grown batches (journaled entries)) image)))
  made_moments law entries few asked past past' old new told moments =
      host_moments law host entries few asked past past' old new told (made_payloads entries past past' old new moments)

  -- what a core answers from nothing on
  pub made_answers : (entries items : List Entry) (core : CoreState) (none given : List Reply) (first commits : List CommitEvent) → none ≡ [] → first ≡ [] → items ≡ entries
      → ((plan : PlanData) (n : Node) (before : List Entry) → HasAnswered plan n before view.core none first → HasAnswered plan n (before ++ items) core given commits)
      → (n : Node) → IsCoreOf host.core host.core.plan n → HasAnswered host.core.plan n entries core given commits
  made_answers entries items core none given first commits no_reply no_commit same answered n from =
      let there : IsCoreOf view.core host.core.plan n = subst (λ (h : HostState). IsCoreOf h.core host.core.plan n) (sym is) from in
      subst (λ (es : List Entry). HasAnswered host.core.plan n es core given commits) same
      (answered host.core.plan n [] (answered_as host.core.plan n [] view.core [] none [] first (answered_none host.core.plan n view.core there) no_reply no_commit))

  pub made_stands : ReadAgain → (entries : List Entry) → length entries ≤ most_inputs → AreAsked host.core.plan host.core.site entries
      → (fault : Result Position HostFault) (journal : Position) → fault ≡ Ok journal → IsErrOf fault NoMemory ⊎ HaveReadings (journaled entries)
      → (after : HostState) → after.core.plan ≡ view.core.plan → after.core.site ≡ view.core.site → after.gate ≡ journal.gate
      → ((n : Node) → IsCoreOf host.core host.core.plan n → IsCoreOf after.core host.core.plan (after_entries host.core.plan n entries))
      → (old new : Option DiskState)
      → IfSome old (λ d. (payloads : List (List ℕ)) → EndsAt d.bytes view.gate payloads → ForSome new (IsEndOf journal.gate (with_payload payloads (journaled entries))))
      → IfSome old (λ d. (batches : List (List Entry)) → IsHostOn host batches d → ForSome new (IsHostOn after (grown batches (journaled entries))))
  made_stands law entries few asked fault journal ok (inl none) after plan site at answered old new ends = absurd (let clash : Ok journal ≡ Err NoMemory = sym ok ∙ none in cc)
  made_stands law entries few asked fault journal ok (inr readings) after plan site at answered old new ends =
      host_stands law host entries few asked readings after (plan ∙ ap (λ (h : HostState). h.core.plan) is) (site ∙ ap (λ (h : HostState). h.core.site) is) answered old new
      (subst (λ (h : HostState). IfSome old (λ d. (payloads : List (List ℕ)) → EndsAt d.bytes h.gate payloads → ForSome new (IsEndOf after.gate (with_payload payloads (journaled entries))))) is
      (subst (λ (gate : ℕ). IfSome old (λ d. (payloads : List (List ℕ)) → EndsAt d.bytes view.gate payloads → ForSome new (IsEndOf gate (with_payload payloads (journaled entries))))) (sym at) ends))

  -- a batch that was sealed and answered ends as its seal did
  pub made_answer : (entries : List Entry) (sealed : Result Position HostFault) (journal : Position) (result : Result Batched HostFault) (batched : Batched) → sealed ≡ Ok journal → result ≡ Ok batched
      → (outlook : Option Outlook)
      → IfSome outlook (λ o. 1 ≤ length (journaled entries) → end_of view.gate (payload_of entries) ≤ view.limit →
      IsErrOf sealed NoMemory ⊎ (is_ok sealed ≡ (nat_le (end_of view.gate (payload_of entries)) o.room && lasts 4 o.failing)))
      → IfSome outlook (λ o. 1 ≤ length (journaled entries) → end_of host.gate (payload_of entries) ≤ host.limit →
      IsErrOf result NoMemory ⊎ (is_ok result ≡ (nat_le (end_of host.gate (payload_of entries)) o.room && lasts 4 o.failing)))
  made_answer entries sealed journal result batched ok ok' None answer = tt
  made_answer entries sealed journal result batched ok ok' (Some o) answer =
      subst (λ (h : HostState). 1 ≤ length (journaled entries) → end_of h.gate (payload_of entries) ≤ h.limit →
      IsErrOf result NoMemory ⊎ (is_ok result ≡ (nat_le (end_of h.gate (payload_of entries)) o.room && lasts 4 o.failing))) is
      (λ some fits. as_sealed (answer some fits))
    where
      as_sealed : IsErrOf sealed NoMemory ⊎ (is_ok sealed ≡ (nat_le (end_of view.gate (payload_of entries)) o.room && lasts 4 o.failing))
          → IsErrOf result NoMemory ⊎ (is_ok result ≡ (nat_le (end_of view.gate (payload_of entries)) o.room && lasts 4 o.failing))
      as_sealed (inl none) = absurd (let clash : Ok journal ≡ Err NoMemory = sym ok ∙ none in cc)
      as_sealed (inr same) = inr (ap is_ok ok' ∙ sym (ap is_ok ok) ∙ same)

-- a fault that was passed on, and none
pub passed_readings : {T : Type 0} (entries : List Entry) (sealed : Result Position HostFault) (result : Result T HostFault) → (IsErrOf sealed NoMemory → IsErrOf result NoMemory)
    → IsErrOf sealed NoMemory ⊎ HaveReadings entries → IsErrOf result NoMemory ⊎ HaveReadings entries
passed_readings entries sealed result pass (inl none) = inl (pass none)
passed_readings entries sealed result pass (inr readings) = inr readings

pub never_fails : (outlook : Option Outlook) (batched : Batched) (fault : HostFault) (P : Outlook → Type 0) → IfSome outlook (λ o. IsErrOf (Ok batched) fault → P o)
never_fails None batched fault P = tt
never_fails (Some o) batched fault P = λ is. absurd (let clash : Ok batched ≡ Err fault = is in cc)
