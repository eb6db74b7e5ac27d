-- No conflicting commit comes between a transaction and its own Commit: the one place where the plan has to be an accepted one.
use Rattle.std.proofs.Common.{◌≡◌, ◌≢◌, ◌∙◌, ap, refl, sym, subst, ℕ, ◌+◌, ◌*◌, ◌<◌, ◌≤◌, true, false, ◌⊎◌, inl, inr, List, ◌∷◌, ◌++◌, append_assoc, Contains, arith}
use Rattle.std.proofs.lemmas.List.Elements.{All-contains, Contains-append_left, Contains-append_cases}
use Rattle.std.proofs.lemmas.Bool.{cases_eq, cases_lt, both_ways}
use Rattle.helios_model.specs.declared.records.Record.{Record}
use Rattle.helios_model.specs.declared.records.Record.TheVariants.{Prepare, Commit}
use Rattle.helios_model.specs.declared.records.CommitEvent.{CommitEvent}
use Rattle.helios_model.specs.Transactions.{Transaction, conflict}
use Rattle.helios_model.specs.Plans.{PlanData, IsAccepted, count_of, rtt, latency}
use Rattle.helios_model.specs.Offset.{IsWithin}
use Rattle.helios_model.specs.Log.{origin, ends, finished, prepares}
use Rattle.helios_model.specs.Sequences.{Mem}
use Rattle.protocol_laws.specs.Order.{IsClearBehind, IsLawful}
use Rattle.protocol_laws.specs.Clusters.{Cluster, Honest}
use Rattle.protocol_laws.specs.SmallSteps.{Commits}
use Rattle.protocol_laws.specs.LogLaws.{LogLaws}
use Rattle.protocol_laws.specs.Reach.{Reach}
use Rattle.protocol_laws.specs.ClusterHistories.{IsHistory}
use Rattle.protocol_laws.proofs.Lists.{any_from, some_of, contains_cases}
use Rattle.protocol_laws.proofs.Ids.{same_id_itself}
use Rattle.protocol_laws.proofs.Sequences.{mem_from_contains, contains_from_mem}
use Rattle.protocol_laws.proofs.KnownRecords.{home, known_here}
use Rattle.protocol_laws.proofs.OneMore.{prepare_stands, prepare_listed}
use Rattle.protocol_laws.proofs.Committed.{IsEventOf}
use Rattle.protocol_laws.proofs.Fits.{conflict_back}
use Rattle.protocol_laws.proofs.Cuts.{contains_cut}
use Rattle.protocol_laws.proofs.Endings.{prepare_found, one_in_log}
use Rattle.protocol_laws.proofs.ConflictOrder.{own_later_ends}
use Rattle.protocol_laws.proofs.LogEnds.{ended_origin, same_end}
use Rattle.protocol_laws.proofs.Growth.{IsPrepared, finish_prepared}
use Rattle.protocol_laws.proofs.Reaches.{waited_within}
use Rattle.protocol_laws.proofs.HistoryLinks.{event_home, unended_never}

-- of two times of different sites one is within the offset of the other: this is what an accepted plan is for
pub one_within : (plan : PlanData) (i j a b : ℕ) → IsAccepted plan → i < count_of plan → j < count_of plan → i ≢ j
    → IsWithin plan i j a b ⊎ IsWithin plan j i b a
one_within plan i j a b accepted low_i low_j apart = by_order (cases_lt (a + latency plan i) (b + rtt plan i j))
  where
    by_order : (a + latency plan i < b + rtt plan i j) ⊎ (b + rtt plan i j ≤ a + latency plan i) → IsWithin plan i j a b ⊎ IsWithin plan j i b a
    by_order (inl far) =
        let trip : rtt plan i j ≡ rtt plan j i = accepted.limits.matrix.symmetric i j low_i low_j in
        let reached : 2 * rtt plan i j ≤ latency plan i + latency plan j = accepted.reached i j low_i low_j apart in
        let within : a + rtt plan j i ≤ b + latency plan j = omega arith in
        inr within
    by_order (inr near) = inl near

-- p is about to commit at s, and e is a commit event that conflicts with it
module _ (plan : PlanData) (w v : Cluster) (s : ℕ) (p : Transaction) (e : CommitEvent) (h : Honest w) (laws : (k : ℕ) → LogLaws k (w.log k))
    (reach : Reach plan w) (history : IsHistory plan w) (low : s < count_of plan) (c : Commits plan w v s p) (there : Contains w.history e)
    (conflicts : conflict e.prepare p ≡ true) where
  abbrev other_site : ℕ
  other_site = e.prepare.id.site

  at_home : IsEventOf (w.log other_site) e
  at_home = event_home plan w h laws history e there

  here : IsPrepared s w p
  here = finish_prepared plan w v s p h (laws s) c

  differs : e.prepare.id ≡ p.id → ⊥
  differs same = unended_never plan w h laws history s p.id e c.here here.unended there same

  -- where the other's Prepare is known here, its Commit stands before the Prepare of p
  pub seen_here : Contains (w.log s) (Prepare e.prepare) → (before after : List Record) → w.log s ≡ before ++ Prepare p ∷ after
      → Contains before (Commit e.prepare.id e.time)
  seen_here known before after cut = by_place (Contains-append_cases before (Prepare p ∷ after) (Prepare e.prepare) (subst (λ l. Contains l (Prepare e.prepare)) cut known))
    where
      ended : (f : Record) × Contains before f × (ends e.prepare.id f ≡ true) → Contains before (Commit e.prepare.id e.time)
      ended f =
          let in_log : Contains (w.log s) f.0 = subst (λ l. Contains l f.0) (sym cut) (Contains-append_left before (Prepare p ∷ after) f.0 f.1) in
          let one : f.0 ≡ Commit e.prepare.id e.time =
          same_end w h (λ k. (laws k).order.each) e.prepare.id s other_site f.0 (Commit e.prepare.id e.time) (mem_from_contains (w.log s) f.0 in_log)
          (mem_from_contains (w.log other_site) (Commit e.prepare.id e.time) at_home.committed) f.2 (same_id_itself e.prepare.id) in
          subst (Contains before) one f.1

      by_behind : (Prepare p ≡ Prepare e.prepare) ⊎ Contains after (Prepare e.prepare) → ⊥
      by_behind (inl same) = let one : p ≡ e.prepare = cc in differs (ap (λ x. x.id) (sym one))
      by_behind (inr behind) = both_ways (conflict e.prepare p)
          (conflict_back e.prepare p ∙ All-contains (λ q. conflict p q ≡ false) (prepares after) e.prepare ((laws s).order.clear p c.here here.unended before after cut)
          (prepare_listed after e.prepare behind)) conflicts

      by_place : Contains before (Prepare e.prepare) ⊎ Contains (Prepare p ∷ after) (Prepare e.prepare) → Contains before (Commit e.prepare.id e.time)
      by_place (inl early) =
          ended (some_of (ends e.prepare.id) before
          (own_later_ends s (w.log s) e.prepare p (laws s).order c.here before after cut (prepare_listed before e.prepare early) conflicts))
      by_place (inr late) = absurd (by_behind (contains_cases (Prepare p) after (Prepare e.prepare) late))

  -- the other site cannot have known the Prepare of p when it committed: it would have ended p
  pub seen_there : other_site ≢ s → IsWithin plan other_site s e.prepare.id.time p.id.time → ⊥
  seen_there apart within = at_commit (contains_cut (w.log other_site) (Commit e.prepare.id e.time) at_home.committed)
    where
      p_stands : Contains (w.log s) (Prepare p)
      p_stands = prepare_stands (w.log s) p here.stands

      ended_there : (front back : List Record) → w.log other_site ≡ front ++ back → (f : Record) × Contains front f × (ends p.id f ≡ true) → ⊥
      ended_there front back cut f =
          let in_log : Contains (w.log other_site) f.0 = subst (λ l. Contains l f.0) (sym cut) (Contains-append_left front back f.0 f.1) in
          let moved : Mem f.0 (w.log (origin f.0)) = (home w h other_site f.0 (mem_from_contains (w.log other_site) f.0 in_log)).there in
          let at_s : Mem f.0 (w.log s) = subst (λ k. Mem f.0 (w.log k)) (ended_origin p.id f.0 f.2 ∙ c.here) moved in
          both_ways (finished (w.log s) p.id) here.unended (any_from (ends p.id) (w.log s) f.0 (contains_from_mem (w.log s) f.0 at_s) f.2)

      by_behind : (front back : List Record) → IsClearBehind (front ++ Prepare e.prepare ∷ back) e.prepare
          → (Prepare e.prepare ≡ Prepare p) ⊎ Contains back (Prepare p) → ⊥
      by_behind front back clear (inl same) = let one : e.prepare ≡ p = cc in differs (ap (λ x. x.id) one)
      by_behind front back clear (inr behind) = both_ways (conflict e.prepare p)
          (All-contains (λ q. conflict e.prepare q ≡ false) (prepares back) p (clear front back refl) (prepare_listed back p behind)) conflicts

      by_place : (front back rest : List Record) → w.log other_site ≡ (front ++ Prepare e.prepare ∷ back) ++ rest
          → IsClearBehind (front ++ Prepare e.prepare ∷ back) e.prepare
          → Contains front (Prepare p) ⊎ Contains (Prepare e.prepare ∷ back) (Prepare p) → ⊥
      by_place front back rest cut clear (inl early) =
          let whole : w.log other_site ≡ front ++ Prepare e.prepare ∷ (back ++ rest) = cut ∙ append_assoc front (Prepare e.prepare ∷ back) rest in
          ended_there front (Prepare e.prepare ∷ (back ++ rest)) whole (some_of (ends p.id) front
          (own_later_ends other_site (w.log other_site) p e.prepare (laws other_site).order refl front (back ++ rest) whole (prepare_listed front p early)
          (conflict_back p e.prepare ∙ conflicts)))
      by_place front back rest cut clear (inr late) = by_behind front back clear (contains_cases (Prepare e.prepare) back (Prepare p) late)

      at_prepare : (before rest : List Record) → w.log other_site ≡ before ++ rest → IsClearBehind before e.prepare → Contains before (Prepare p)
          → (front : List Record) × (back : List Record) × (before ≡ front ++ Prepare e.prepare ∷ back) → ⊥
      at_prepare before rest cut clear known at_e =
          by_place at_e.0 at_e.1 rest (cut ∙ ap (λ l. l ++ rest) at_e.2) (subst (λ l. IsClearBehind l e.prepare) at_e.2 clear)
          (Contains-append_cases at_e.0 (Prepare e.prepare ∷ at_e.1) (Prepare p) (subst (λ l. Contains l (Prepare p)) at_e.2 known))

      prepare_early : (before after : List Record) → w.log other_site ≡ before ++ Commit e.prepare.id e.time ∷ after → Contains before (Prepare e.prepare)
      prepare_early before after cut =
          let lawful : IsLawful other_site before (Commit e.prepare.id e.time) = (laws other_site).order.each before (Commit e.prepare.id e.time) after cut in
          let found = prepare_found before e.prepare.id lawful.0.prepared in
          let early : Contains before (Prepare found.0) = prepare_stands before found.0 found.2 in
          let in_log : Contains (w.log other_site) (Prepare found.0) =
          subst (λ l. Contains l (Prepare found.0)) (sym cut) (Contains-append_left before (Commit e.prepare.id e.time ∷ after) (Prepare found.0) early) in
          let one : found.0 ≡ e.prepare =
          one_in_log (w.log other_site) found.0 e.prepare (laws other_site).pool.ids (prepare_listed (w.log other_site) found.0 in_log) at_home.prepared found.3 in
          subst (λ q. Contains before (Prepare q)) one early

      at_commit : (before : List Record) × (after : List Record) × (w.log other_site ≡ before ++ Commit e.prepare.id e.time ∷ after) → ⊥
      at_commit cut =
          let lawful : IsLawful other_site cut.0 (Commit e.prepare.id e.time) = (laws other_site).order.each cut.0 (Commit e.prepare.id e.time) cut.1 cut.2 in
          let known : Contains cut.0 (Prepare p) =
          reach.seen other_site cut.0 (Commit e.prepare.id e.time) cut.1 cut.2 refl s (Prepare p) low (λ same. apart (sym same)) p_stands c.here within in
          at_prepare cut.0 (Commit e.prepare.id e.time ∷ cut.1) cut.2 (lawful.1 refl e.prepare refl) known
          (contains_cut cut.0 (Prepare e.prepare) (prepare_early cut.0 cut.1 cut.2))

  -- each conflicting event had its Commit in this site's log before p was taken
  pub exclusion : IsAccepted plan → (before after : List Record) → w.log s ≡ before ++ Prepare p ∷ after → Contains before (Commit e.prepare.id e.time)
  exclusion accepted before after cut = by_site (cases_eq other_site s)
    where
      prepare_home : Contains (w.log other_site) (Prepare e.prepare)
      prepare_home = prepare_stands (w.log other_site) e.prepare at_home.prepared

      other_low : other_site < count_of plan
      other_low = All-contains (λ x. x.prepare.id.site < count_of plan) w.history e history.sites there

      by_offset : other_site ≢ s → IsWithin plan s other_site p.id.time e.prepare.id.time ⊎ IsWithin plan other_site s e.prepare.id.time p.id.time
          → Contains before (Commit e.prepare.id e.time)
      by_offset apart (inl near) =
          let known : e.prepare.id.time ≤ w.tab s s other_site =
          waited_within plan s other_site p.id.time (w.tab s s other_site) e.prepare.id.time (c.waited other_site other_low apart) near in
          seen_here (contains_from_mem (w.log s) (Prepare e.prepare) (known_here w h s (Prepare e.prepare)
          (mem_from_contains (w.log other_site) (Prepare e.prepare) prepare_home) known)) before after cut
      by_offset apart (inr far) = absurd (seen_there apart far)

      by_site : (other_site ≡ s) ⊎ (other_site ≡ s → ⊥) → Contains before (Commit e.prepare.id e.time)
      by_site (inl same) = seen_here (subst (λ k. Contains (w.log k) (Prepare e.prepare)) same prepare_home) before after cut
      by_site (inr apart) = by_offset apart (one_within plan s other_site p.id.time e.prepare.id.time accepted low other_low (λ same. apart (sym same)))
