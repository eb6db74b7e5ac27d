-- Where one site alone takes batches, the history is a serial one whatever the plan.
use Rattle.std.proofs.Common.{◌≡◌, ◌≢◌, ◌∙◌, ap, refl, sym, subst, ℕ, ◌+◌, true, false, ◌⊎◌, inl, inr, List, [], ◌∷◌, ◌++◌, Contains, eq-eqb}
use Rattle.std.proofs.lemmas.List.{append-nil}
use Rattle.std.proofs.lemmas.List.Elements.{All-contains}
use Rattle.std.proofs.lemmas.Bool.{cases_eq}
use Rattle.helios_model.specs.declared.records.Record.{Record}
use Rattle.helios_model.specs.declared.records.Record.TheVariants.{Commit}
use Rattle.helios_model.specs.declared.records.CommitEvent.{CommitEvent}
use Rattle.helios_model.specs.Ids.{same_id}
use Rattle.helios_model.specs.Transactions.{Transaction}
use Rattle.helios_model.specs.Plans.{PlanData}
use Rattle.helios_model.specs.Log.{commits, current, origin, unfinished}
use Rattle.helios_model.specs.Sequences.{Mem}
use Rattle.helios_model.specs.Serial.{Follows, IsSerial}
use Rattle.helios_model.specs.Node.{empty_node}
use Rattle.helios_model.specs.Step.{after_entries}
use Rattle.helios_model.specs.World.{World, Event, entries_of, first_world, happens, is_own_commit, run}
use Rattle.helios_model.specs.World.Event.{Batch, Restart}
use Rattle.helios_model.specs.World.Ending.{Done, Kept, Lost}
use Rattle.protocol_laws.specs.Histories.{AreAt, SerialAtOneSite}
use Rattle.protocol_laws.specs.Clusters.{Cluster}
use Rattle.protocol_laws.specs.LogLaws.{LogLaws}
use Rattle.protocol_laws.specs.ReachedClusters.{IsKept}
use Rattle.protocol_laws.specs.SmallSteps.{Commits, IsReached, SmallStep}
use Rattle.protocol_laws.specs.SmallSteps.SmallStep.{Tick, Begin, Finish, Take, Send}
use Rattle.protocol_laws.specs.SmallSteps.IsReached.{Begun, Gone}
use Rattle.protocol_laws.specs.Views.{cluster_of}
use Rattle.protocol_laws.proofs.Lists.{all_from, contains_nothing, keeps_all}
use Rattle.protocol_laws.proofs.Sequences.{mem_from_contains}
use Rattle.protocol_laws.proofs.Cuts.{no_cut, no_pairs}
use Rattle.protocol_laws.proofs.Committed.{event_of}
use Rattle.protocol_laws.proofs.SerialSteps.{serial_commit}
use Rattle.protocol_laws.proofs.KnownRecords.{home}
use Rattle.protocol_laws.proofs.Growth.{IsPrepared, finish_prepared}
use Rattle.protocol_laws.proofs.HistoryLinks.{event_home}
use Rattle.protocol_laws.proofs.ReachedClusters.{each_cluster_is_kept}
use Rattle.protocol_laws.proofs.Later.{IsLater, step_later}
use Rattle.protocol_laws.proofs.Worlds.{entries_elsewhere}
use Rattle.protocol_laws.proofs.Runs.{first_entries_none, simulation}

-- no other site has a record
abbrev IsAlone : ℕ → Cluster → Type 0
IsAlone s w = (i : ℕ) → i ≢ s → w.log i ≡ []

front_empty : {X : Type 0} (xs ys : List X) → xs ++ ys ≡ [] → xs ≡ []
front_empty [] ys e = refl
front_empty (x ∷ xs) ys e = absurd (cc)

alone_before : (s : ℕ) (w v : Cluster) → IsLater w v → IsAlone s v → IsAlone s w
alone_before s w v later alone i apart = front_empty (w.log i) (later.more i) (sym (later.grown i) ∙ alone i apart)

module _ (plan : PlanData) (s : ℕ) (w : Cluster) (kept : IsKept plan w) (alone : IsAlone s w) where
  record_own : (r : Record) → Mem r (w.log s) → origin r ≡ s
  record_own r there = by_site (cases_eq (origin r) s)
    where
      by_site : (origin r ≡ s) ⊎ (origin r ≡ s → ⊥) → origin r ≡ s
      by_site (inl same) = same
      by_site (inr apart) = absurd (subst (λ l. Mem r l) (alone (origin r) apart) (home w kept.honest s r there).there)

  event_own : (e : CommitEvent) → Contains w.history e → e.prepare.id.site ≡ s
  event_own e there = by_site (cases_eq e.prepare.id.site s)
    where
      by_site : (e.prepare.id.site ≡ s) ⊎ (e.prepare.id.site ≡ s → ⊥) → e.prepare.id.site ≡ s
      by_site (inl same) = same
      by_site (inr apart) = absurd (contains_nothing (Commit e.prepare.id e.time) (subst (λ l. Contains l (Commit e.prepare.id e.time)) (alone e.prepare.id.site apart)
          (event_home plan w kept.honest kept.laws kept.history e there).committed))

  -- the history is that of the site's log
  history_here : w.history ≡ commits (w.log s)
  history_here =
      sym (keeps_all (is_own_commit s) w.history (all_from (λ e. is_own_commit s e ≡ true) w.history
      (λ e there. eq-eqb e.prepare.id.site s (event_own e there))))
      ∙ kept.history.own s
      ∙ keeps_all (is_own_commit s) (commits (w.log s)) (all_from (λ e. is_own_commit s e ≡ true) (commits (w.log s))
      (λ e there. eq-eqb e.prepare.id.site s (record_own (Commit e.prepare.id e.time)
      (mem_from_contains (w.log s) (Commit e.prepare.id e.time) (event_of (w.log s) e there).committed))))

-- the site commits one more
serial_finish : (plan : PlanData) (s : ℕ) (w v : Cluster) (p : Transaction) → IsKept plan w → IsKept plan v → IsAlone s w → IsAlone s v → Commits plan w v s p
    → IsSerial w.history → IsSerial v.history
serial_finish plan s w v p kept after alone alone_after c h =
    let laws : LogLaws s (w.log s) = kept.laws s in
    let prepared : IsPrepared s w p = finish_prepared plan w v s p kept.honest laws c in
    let follows : Follows (current (w.log s)) p =
    All-contains (λ q. q.id.site ≡ s → Follows (current (w.log s)) q) (unfinished (w.log s)) p laws.pool.fits c.unfinished_here c.here in
    subst IsSerial (sym (history_here plan s v after alone_after ∙ ap commits c.own.moves.log))
    (serial_commit (w.log s) p.id (w.tab s s s + 1) p laws.pool.backed (subst IsSerial (history_here plan s w kept alone) h) prepared.found prepared.unended follows)

serial_step : (plan : PlanData) (s : ℕ) (w v : Cluster) → IsKept plan w → IsKept plan v → IsAlone s w → IsAlone s v → IsSerial w.history → SmallStep plan w v
    → IsSerial v.history
serial_step plan s w v kept after alone alone_after h (Tick k low o) = subst IsSerial (sym (o.moves.history ∙ append-nil w.history)) h
serial_step plan s w v kept after alone alone_after h (Begin k low p b) = subst IsSerial (sym (b.own.moves.history ∙ append-nil w.history)) h
serial_step plan s w v kept after alone alone_after h (Take k low m t) = subst IsSerial (sym t.history) h
serial_step plan s w v kept after alone alone_after h (Send m low o) = subst IsSerial (sym o.history) h
serial_step plan s w v kept after alone alone_after h (Finish k low p c) = by_site (cases_eq k s)
  where
    by_site : (k ≡ s) ⊎ (k ≡ s → ⊥) → IsSerial v.history
    by_site (inl same) =
        serial_finish plan k w v p kept after (subst (λ i. IsAlone i w) (sym same) alone) (subst (λ i. IsAlone i v) (sym same) alone_after) c h
    by_site (inr apart) = absurd (no_cut (w.log k) (Commit p.id (w.tab k k k + 1)) [] (sym (alone_after k apart) ∙ c.own.moves.log))

serial_alone : (plan : PlanData) (s : ℕ) (w : Cluster) → IsReached plan w → IsAlone s w → IsSerial w.history
serial_alone plan s w (Begun f) alone =
    subst IsSerial (sym f.history) (record { distinct = no_pairs (λ a b. same_id a.prepare.id b.prepare.id ≡ false); serial = tt })
serial_alone plan s w (Gone {w = u} before step) alone =
    let kept : IsKept plan u = each_cluster_is_kept plan u before in
    let still : IsAlone s u = alone_before s u w (step_later plan u w kept step) alone in
    serial_step plan s u w kept (each_cluster_is_kept plan w (Gone before step)) still alone (serial_alone plan s u before still) step

-- no other site's journal has an entry
alone_happens : (plan : PlanData) (site : ℕ) (w : World) (e : Event) (i : ℕ) → AreAt site (e ∷ []) → i ≢ site → entries_of w i ≡ []
    → entries_of (happens plan w e) i ≡ []
alone_happens plan site w (Batch here entries Done) i at_site apart h = entries_elsewhere plan w here i entries (λ same. apart (same ∙ at_site.0)) ∙ h
alone_happens plan site w (Batch here entries Kept) i at_site apart h = entries_elsewhere plan w here i entries (λ same. apart (same ∙ at_site.0)) ∙ h
alone_happens plan site w (Batch here entries Lost) i at_site apart h = h
alone_happens plan site w (Restart here) i at_site apart h = h

first_at : (site : ℕ) (e : Event) (es : List Event) → AreAt site (e ∷ es) → AreAt site (e ∷ []) × AreAt site es
first_at site (Batch here entries ending) es h = ((h.0, tt), h.1)
first_at site (Restart here) es h = (tt, h)

alone_run : (plan : PlanData) (site : ℕ) (w : World) (events : List Event) (i : ℕ) → AreAt site events → i ≢ site → entries_of w i ≡ []
    → entries_of (run plan w events) i ≡ []
alone_run plan site w [] i at_site apart h = h
alone_run plan site w (e ∷ es) i at_site apart h =
    let parts = first_at site e es at_site in
    alone_run plan site (happens plan w e) es i parts.1 apart (alone_happens plan site w e i parts.0 apart h)

pub serial_at_one_site : SerialAtOneSite
serial_at_one_site plan site low events at_site may =
    serial_alone plan site (cluster_of plan (run plan (first_world plan) events)) (simulation plan events may)
    (λ i apart. ap (λ es. (after_entries plan (empty_node plan i) es).log)
    (alone_run plan site (first_world plan) events i at_site apart (first_entries_none plan i)))
