-- Small steps keep what own Commits have waited for, and which records stand before them.
use Rattle.std.proofs.Common.{◌≡◌, ◌≢◌, ◌∙◌, sym, subst, ℕ, ◌+◌, ◌<◌, ◌≤◌, true, ◌⊎◌, inl, inr, List, ◌∷◌, ◌++◌, All, Contains, arith}
use Rattle.std.proofs.lemmas.List.Elements.{All-append, All-weaker, All-contains, Contains-append_left, Contains-append_right, Contains-append_cases}
use Rattle.std.proofs.lemmas.Bool.{cases_eq, leb-true, le-leb}
use Rattle.helios_model.specs.declared.ids.TxnId.{TxnId}
use Rattle.helios_model.specs.declared.records.Record.{Record}
use Rattle.helios_model.specs.declared.records.Record.TheVariants.{Prepare, Commit, Abort}
use Rattle.helios_model.specs.declared.records.CommitEvent.{CommitEvent}
use Rattle.helios_model.specs.Plans.{PlanData, count_of, rtt, latency}
use Rattle.helios_model.specs.Offset.{is_past, IsWithin}
use Rattle.helios_model.specs.Log.{origin, own_time}
use Rattle.protocol_laws.specs.Clusters.{Cluster, Honest}
use Rattle.helios_model.specs.Sequences.{Mem}
use Rattle.protocol_laws.specs.LogLaws.{LogLaws}
use Rattle.protocol_laws.specs.Reach.{HasWaited, HasSeen, Reach}
use Rattle.protocol_laws.proofs.Lists.{contains_here}
use Rattle.protocol_laws.proofs.Sequences.{mem_from_contains, contains_from_mem}
use Rattle.protocol_laws.proofs.KnownRecords.{known_here}
use Rattle.protocol_laws.proofs.Cuts.{split_append}
use Rattle.protocol_laws.proofs.Growth.{IsFresh, Goes}

-- a site that has heard of another one far enough past a time has heard of all that is within the offset of that time
pub waited_within : (plan : PlanData) (i j q heard time : ℕ) → is_past plan i j q heard ≡ true → IsWithin plan i j q time → time ≤ heard
waited_within plan i j q heard time past within =
    let waited : q + latency plan i ≤ heard + rtt plan i j = leb-true (q + latency plan i) (heard + rtt plan i j) past in
    omega arith

past_later : (plan : PlanData) (i j q low high : ℕ) → low ≤ high → is_past plan i j q low ≡ true → is_past plan i j q high ≡ true
past_later plan i j q low high le past =
    let waited : q + latency plan i ≤ low + rtt plan i j = leb-true (q + latency plan i) (low + rtt plan i j) past in
    le-leb (q + latency plan i) (high + rtt plan i j) (omega arith)

module _ (plan : PlanData) (w v : Cluster) (s : ℕ) (more : List Record) (events : List CommitEvent) (h : Honest w) (reach : Reach plan w)
    (g : Goes plan w v s more events) where
  waits_on : (i : ℕ) (r : Record) → HasWaited plan w i r → HasWaited plan v i r
  waits_on i (Prepare p) waited = tt
  waits_on i (Commit id time) waited = λ own j low apart. past_later plan i j id.time (w.tab i i j) (v.tab i i j) (g.row i j) (waited own j low apart)
  waits_on i (Abort id time cause) waited = tt

  waited_now : (i : ℕ) → (i ≡ s) ⊎ (i ≡ s → ⊥) → All (HasWaited plan v i) (v.log i)
  waited_now i (inl same) = subst (λ k. All (HasWaited plan v k) (v.log k)) (sym same) (subst (All (HasWaited plan v s)) (sym g.log)
      (All-append (HasWaited plan v s) (w.log s) more
      (All-weaker (HasWaited plan w s) (HasWaited plan v s) (waits_on s) (w.log s) (reach.waited s))
      (All-weaker (HasWaited plan w s) (HasWaited plan v s) (waits_on s) more g.waited)))
  waited_now i (inr apart) = subst (All (HasWaited plan v i)) (sym (g.other_log i apart))
      (All-weaker (HasWaited plan w i) (HasWaited plan v i) (waits_on i) (w.log i) (reach.waited i))

  -- a new record of the site that goes on is not within the offset of another site's Commit
  too_late : (i : ℕ) (id : TxnId) (time : ℕ) (r : Record) → i ≢ s → s < count_of plan → id.site ≡ i → Contains (w.log i) (Commit id time) → IsFresh w s r
      → origin r ≡ s → IsWithin plan i s id.time (own_time r) → ⊥
  too_late i id time r apart low own there fresh its within =
      let waited : is_past plan i s id.time (w.tab i i s) ≡ true =
      All-contains (HasWaited plan w i) (w.log i) (Commit id time) (reach.waited i) there own s low (λ same. apart (sym same)) in
      let known : own_time r ≤ w.tab i i s = waited_within plan i s id.time (w.tab i i s) (own_time r) waited within in
      let row : w.tab i i s ≤ w.tab s s s = h.row i s in
      let above : w.tab s s s < own_time r = fresh its in
      omega arith

  seen_elsewhere : (i : ℕ) (before : List Record) (id : TxnId) (time : ℕ) (after : List Record) → i ≢ s → w.log i ≡ before ++ Commit id time ∷ after
      → HasSeen plan v i before (Commit id time)
  seen_elsewhere i before id time after apart cut own j r low other there its within = by_site (cases_eq j s)
    where
      at_commit : Contains (w.log i) (Commit id time)
      at_commit = subst (λ l. Contains l (Commit id time)) (sym cut) (Contains-append_right before (Commit id time ∷ after) (Commit id time) (contains_here (Commit id time) after))

      old : Contains (w.log j) r → Contains before r
      old in_log = reach.seen i before (Commit id time) after cut own j r low other in_log its within

      by_part : j ≡ s → Contains (w.log s) r ⊎ Contains more r → Contains before r
      by_part same (inl early) = old (subst (λ k. Contains (w.log k) r) (sym same) early)
      by_part same (inr late) = absurd (too_late i id time r apart (subst (λ k. k < count_of plan) same low) own at_commit
          (All-contains (IsFresh w s) more r g.fresh late) (its ∙ same) (subst (λ k. IsWithin plan i k id.time (own_time r)) same within))

      by_site : (j ≡ s) ⊎ (j ≡ s → ⊥) → Contains before r
      by_site (inl same) = by_part same (Contains-append_cases (w.log s) more r (subst (λ l. Contains l r) g.log (subst (λ k. Contains (v.log k) r) same there)))
      by_site (inr away) = old (subst (λ l. Contains l r) (g.other_log j away) there)

  seen_here : (before : List Record) (id : TxnId) (time : ℕ) (after : List Record) → w.log s ++ more ≡ before ++ Commit id time ∷ after
      → HasSeen plan v s before (Commit id time)
  seen_here before id time after cut own j r low other there its within = by_place (split_append (w.log s) more before (Commit id time) after cut)
    where
      in_old : Contains (w.log j) r
      in_old = subst (λ l. Contains l r) (g.other_log j other) there

      by_place : ((rest : List Record) × (w.log s ≡ before ++ Commit id time ∷ rest))
          ⊎ ((front : List Record) × (before ≡ w.log s ++ front) × (more ≡ front ++ Commit id time ∷ after)) → Contains before r
      by_place (inl (rest, old)) = reach.seen s before (Commit id time) rest old own j r low other in_old its within
      by_place (inr (front, behind, new)) =
          let at_commit : Contains more (Commit id time) = subst (λ l. Contains l (Commit id time)) (sym new)
          (Contains-append_right front (Commit id time ∷ after) (Commit id time) (contains_here (Commit id time) after)) in
          let waited : is_past plan s j id.time (w.tab s s j) ≡ true = All-contains (HasWaited plan w s) more (Commit id time) g.waited at_commit own j low other in
          let known : own_time r ≤ w.tab s s j = waited_within plan s j id.time (w.tab s s j) (own_time r) waited within in
          let here : Contains (w.log s) r = contains_from_mem (w.log s) r (known_here w h s r
          (subst (λ k. Mem r (w.log k)) (sym its) (mem_from_contains (w.log j) r in_old)) (subst (λ k. own_time r ≤ w.tab s s k) (sym its) known)) in
          subst (λ l. Contains l r) (sym behind) (Contains-append_left (w.log s) front r here)

  seen_now : (i : ℕ) (before : List Record) (r : Record) (after : List Record) → (i ≡ s) ⊎ (i ≡ s → ⊥) → v.log i ≡ before ++ r ∷ after → HasSeen plan v i before r
  seen_now i before (Prepare p) after at_s cut = tt
  seen_now i before (Commit id time) after (inl same) cut = subst (λ k. HasSeen plan v k before (Commit id time)) (sym same)
      (seen_here before id time after (sym g.log ∙ subst (λ k. v.log k ≡ before ++ Commit id time ∷ after) same cut))
  seen_now i before (Commit id time) after (inr apart) cut = seen_elsewhere i before id time after apart (sym (g.other_log i apart) ∙ cut)
  seen_now i before (Abort id time cause) after at_s cut = tt

  pub reach_goes : Reach plan v
  reach_goes = record {
    waited = λ i. waited_now i (cases_eq i s);
    seen = λ i before r after cut. seen_now i before r after (cases_eq i s) cut;
  }

  pub laws_go : ((k : ℕ) → LogLaws k (w.log k)) → (k : ℕ) → LogLaws k (v.log k)
  laws_go laws k = by_site (cases_eq k s)
    where
      by_site : (k ≡ s) ⊎ (k ≡ s → ⊥) → LogLaws k (v.log k)
      by_site (inl same) = subst (λ i. LogLaws i (v.log i)) (sym same) g.laws
      by_site (inr apart) = subst (LogLaws k) (sym (g.other_log k apart)) (laws k)
