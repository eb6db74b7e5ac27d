-- As a transaction commits, the history stays in order and serial.
use Rattle.std.proofs.Common.{◌≡◌, ◌∙◌, ap, refl, sym, subst, ℕ, ◌+◌, ◌<◌, true, false, ◌⊎◌, inl, inr, Option, Some, None, option_map, List, [], ◌∷◌, ◌++◌, length, get_or, fold, filter, AllPairs, Contains, arith}
use Rattle.std.proofs.lemmas.List.Elements.{All-contains, Contains-get_or, Contains-append_left}
use Rattle.std.proofs.lemmas.List.Kept.{AllPairs-filter}
use Rattle.std.proofs.lemmas.List.Quantifiers.{all_pairs_push}
use Rattle.std.proofs.lemmas.Bool.{cases_eq, false_from_ne_true}
use Rattle.helios_model.specs.declared.ids.Version.TheVariants.{Initial}
use Rattle.helios_model.specs.declared.records.Record.{Record}
use Rattle.helios_model.specs.declared.records.Record.TheVariants.{Prepare, Commit, Abort}
use Rattle.helios_model.specs.declared.records.CommitEvent.{CommitEvent}
use Rattle.helios_model.specs.Ids.{same_id}
use Rattle.helios_model.specs.Transactions.{Transaction, conflict, writes_key}
use Rattle.helios_model.specs.Plans.{PlanData, IsAccepted, count_of}
use Rattle.helios_model.specs.Log.{prepares, prepare_of, unfinished, event_at, commit_in, commits, version_after, current}
use Rattle.helios_model.specs.Serial.{Follows, IsSerial}
use Rattle.helios_model.specs.Sequences.{Before}
use Rattle.protocol_laws.specs.Clusters.{Cluster, Honest}
use Rattle.protocol_laws.specs.SmallSteps.{Commits}
use Rattle.protocol_laws.specs.LogLaws.{LogLaws}
use Rattle.protocol_laws.specs.Reach.{Reach}
use Rattle.protocol_laws.specs.ClusterHistories.{IsHistory, commit_of, IsOrdered}
use Rattle.protocol_laws.proofs.Lists.{find_passes, contains_filter, contains_from_filter}
use Rattle.protocol_laws.proofs.Ids.{same_id_is}
use Rattle.protocol_laws.proofs.Sequences.{mem_from_contains, before_left, before_across}
use Rattle.protocol_laws.proofs.KnownRecords.{log_rises}
use Rattle.protocol_laws.proofs.OneMore.{prepare_stands}
use Rattle.protocol_laws.proofs.Committed.{event_of}
use Rattle.protocol_laws.proofs.Fits.{conflict_of_read, conflict_of_write, conflict_of_writers}
use Rattle.protocol_laws.proofs.SerialSteps.{serial_one_more}
use Rattle.protocol_laws.proofs.Cuts.{contains_cut}
use Rattle.protocol_laws.proofs.OrderedLists.{same_ordered, before_asym, filter_map_ordered, writers_only}
use Rattle.protocol_laws.proofs.Growth.{Goes, IsPrepared, finish_prepared, rises_of}
use Rattle.protocol_laws.proofs.HistoryLinks.{event_here, known_event, unended_never}
use Rattle.protocol_laws.proofs.Exclusion.{exclusion}

-- the record of a commit event
event_record : (log : List Record) (r : Record) (e : CommitEvent) → commit_in log r ≡ Some e → commit_of e ≡ r
event_record log (Prepare p) e gives = absurd (cc)
event_record log (Commit id time) e gives = by_find (prepare_of log id) refl gives
  where
    by_find : (o : Option Transaction) → prepare_of log id ≡ o → option_map (event_at time) o ≡ Some e → commit_of e ≡ Commit id time
    by_find None look none = absurd (cc)
    by_find (Some q) look some =
        let event : event_at time q ≡ e = cc in
        let named : q.id ≡ id = same_id_is q.id id (find_passes (λ x. same_id x.id id) (prepares log) q look).1 in
        ap commit_of (sym event) ∙ ap (λ x. Commit x time) named
event_record log (Abort id time cause) e gives = absurd (cc)

-- what stands in the one order in a log stands so as the log grows
pub before_goes : (plan : PlanData) (w v : Cluster) (s : ℕ) (more : List Record) (events : List CommitEvent) → Goes plan w v s more events
    → (a b : Record) (k : ℕ) → Before a b (w.log k) → Before a b (v.log k)
before_goes plan w v s more events g a b k first = by_site (cases_eq k s)
  where
    by_site : (k ≡ s) ⊎ (k ≡ s → ⊥) → Before a b (v.log k)
    by_site (inl same) = subst (λ i. Before a b (v.log i)) (sym same)
        (subst (Before a b) (sym g.log) (before_left a b (w.log s) more (subst (λ i. Before a b (w.log i)) same first)))
    by_site (inr apart) = subst (Before a b) (sym (g.other_log k apart)) first

-- the order of the events stays, and a new event comes behind those that it conflicts with
pub ordered_goes : (plan : PlanData) (w v : Cluster) (s : ℕ) (more : List Record) (events : List CommitEvent) → Goes plan w v s more events → IsOrdered w
    → AllPairs (λ e f. conflict e.prepare f.prepare ≡ true → Before (commit_of e) (commit_of f) (v.log f.prepare.id.site)) w.history
ordered_goes plan w v s more events g ordered i j d less low conflicts =
    before_goes plan w v s more events g (commit_of (get_or w.history i d)) (commit_of (get_or w.history j d)) (get_or w.history j d).prepare.id.site
    (ordered i j d less low conflicts)

module _ (plan : PlanData) (w v : Cluster) (s : ℕ) (p : Transaction) (h : Honest w) (laws : (k : ℕ) → LogLaws k (w.log k))
    (reach : Reach plan w) (history : IsHistory plan w) (low : s < count_of plan) (c : Commits plan w v s p) where
  prepared : IsPrepared s w p
  prepared = finish_prepared plan w v s p h (laws s) c

  abbrev event : CommitEvent
  event = event_at (w.tab s s s + 1) p

  -- the new event has a new id
  pub distinct_finish : AllPairs (λ a b. same_id a.prepare.id b.prepare.id ≡ false) (w.history ++ event ∷ [])
  distinct_finish = all_pairs_push (λ a b. same_id a.prepare.id b.prepare.id ≡ false) w.history event history.distinct (λ k d inside.
      false_from_ne_true (same_id (get_or w.history k d).prepare.id p.id) (λ same.
      unended_never plan w h laws history s p.id (get_or w.history k d) c.here prepared.unended (Contains-get_or w.history k d inside)
      (same_id_is (get_or w.history k d).prepare.id p.id same)))

  module _ (accepted : IsAccepted plan) (ordered : IsOrdered w) where
    -- an event that conflicts has its Commit here
    committed_here : (e : CommitEvent) → Contains w.history e → conflict e.prepare p ≡ true → Contains (w.log s) (commit_of e)
    committed_here e there conflicts =
        let cut = contains_cut (w.log s) (Prepare p) (prepare_stands (w.log s) p prepared.stands) in
        let early : Contains cut.0 (commit_of e) = exclusion plan w v s p e h laws reach history low c there conflicts accepted cut.0 cut.1 cut.2 in
        subst (λ l. Contains l (commit_of e)) (sym cut.2) (Contains-append_left cut.0 (Prepare p ∷ cut.1) (commit_of e) early)

    ordered_new : (e : CommitEvent) → Contains w.history e → conflict e.prepare p ≡ true → Before (commit_of e) (commit_of event) (v.log p.id.site)
    ordered_new e there conflicts = subst (λ k. Before (commit_of e) (commit_of event) (v.log k)) (sym c.here)
        (subst (Before (commit_of e) (commit_of event)) (sym c.own.moves.log)
        (before_across (commit_of e) (commit_of event) (w.log s) (commit_of event ∷ [])
        (mem_from_contains (w.log s) (commit_of e) (committed_here e there conflicts)) (inl refl)))

    pub ordered_finish : AllPairs (λ e f. conflict e.prepare f.prepare ≡ true → Before (commit_of e) (commit_of f) (v.log f.prepare.id.site)) w.history
        → AllPairs (λ e f. conflict e.prepare f.prepare ≡ true → Before (commit_of e) (commit_of f) (v.log f.prepare.id.site)) (w.history ++ event ∷ [])
    ordered_finish old = all_pairs_push (λ e f. conflict e.prepare f.prepare ≡ true → Before (commit_of e) (commit_of f) (v.log f.prepare.id.site)) w.history event old
        (λ k d inside. ordered_new (get_or w.history k d) (Contains-get_or w.history k d inside))

    -- a key of p has the version in this log that the history gives
    module _ (key : List ℕ) (touches : (q : Transaction) → writes_key q key ≡ true → conflict q p ≡ true) where
      abbrev writers : List CommitEvent → List CommitEvent
      writers es = filter (λ e. writes_key e.prepare key) es

      from_history : (e : CommitEvent) → Contains (writers w.history) e → Contains w.history e × (writes_key e.prepare key ≡ true)
      from_history e there = contains_from_filter (λ x. writes_key x.prepare key) w.history e there

      here_too : (e : CommitEvent) → Contains (writers w.history) e → Contains (writers (commits (w.log s))) e
      here_too e there =
          let parts = from_history e there in
          contains_filter (λ x. writes_key x.prepare key) (commits (w.log s)) e
          (event_here plan w h laws history s e parts.0 (committed_here e parts.0 (touches e.prepare parts.1))) parts.1

      there_too : (e : CommitEvent) → Contains (writers (commits (w.log s))) e → Contains (writers w.history) e
      there_too e here =
          let parts = contains_from_filter (λ x. writes_key x.prepare key) (commits (w.log s)) e here in
          contains_filter (λ x. writes_key x.prepare key) w.history e (known_event plan w h laws history s e (event_of (w.log s) e parts.0)) parts.1

      carried : (e f : CommitEvent) → Contains (writers w.history) e → Contains (writers w.history) f
          → (conflict e.prepare f.prepare ≡ true → Before (commit_of e) (commit_of f) (w.log f.prepare.id.site)) → Before (commit_of e) (commit_of f) (w.log s)
      carried e f at_e at_f order =
          let first = from_history e at_e in
          let second = from_history f at_f in
          h.causal s (commit_of e) (commit_of f) (mem_from_contains (w.log s) (commit_of f) (committed_here f second.0 (touches f.prepare second.1)))
          (order (conflict_of_writers e.prepare f.prepare key first.1 second.1))

      history_order : AllPairs (λ e f. Before (commit_of e) (commit_of f) (w.log s)) (writers w.history)
      history_order i j d less inside =
          let early : i < length (writers w.history) = omega arith in
          carried (get_or (writers w.history) i d) (get_or (writers w.history) j d) (Contains-get_or (writers w.history) i d early)
          (Contains-get_or (writers w.history) j d inside)
          (AllPairs-filter (λ e f. conflict e.prepare f.prepare ≡ true → Before (commit_of e) (commit_of f) (w.log f.prepare.id.site))
          (λ x. writes_key x.prepare key) w.history ordered i j d less inside)

      same_writers : writers (commits (w.log s)) ≡ writers w.history
      same_writers = same_ordered (λ e f. Before (commit_of e) (commit_of f) (w.log s))
          (λ e f. before_asym (commit_of e) (commit_of f) (w.log s) (rises_of (w.log s) (log_rises w h s)))
          (writers (commits (w.log s))) (writers w.history) there_too here_too
          (AllPairs-filter (λ e f. Before (commit_of e) (commit_of f) (w.log s)) (λ x. writes_key x.prepare key) (commits (w.log s))
          (filter_map_ordered (commit_in (w.log s)) commit_of (event_record (w.log s)) (w.log s)))
          history_order

      touched_key : current (w.log s) key ≡ fold (version_after key) Initial w.history
      touched_key =
          writers_only key Initial (commits (w.log s)) ∙ ap (fold (version_after key) Initial) same_writers ∙ sym (writers_only key Initial w.history)

    follows_history : Follows (λ key. fold (version_after key) Initial w.history) p
    follows_history = record {
      reads = λ k d inside. fits.reads k d inside
          ∙ touched_key (get_or p.reads k d).key (λ q writes. conflict_of_read p q (get_or p.reads k d) (Contains-get_or p.reads k d inside) writes);
      writes = λ k d inside. fits.writes k d inside
          ∙ touched_key (get_or p.writes k d).key (λ q writes. conflict_of_write p q (get_or p.writes k d) (Contains-get_or p.writes k d inside) writes);
    }
      where
        fits : Follows (current (w.log s)) p
        fits = All-contains (λ q. q.id.site ≡ s → Follows (current (w.log s)) q) (unfinished (w.log s)) p (laws s).pool.fits c.unfinished_here c.here

    -- the history stays a serial one
    pub serial_finish : IsSerial w.history → IsSerial (w.history ++ event ∷ [])
    serial_finish old = record {
      distinct = distinct_finish;
      serial = serial_one_more (λ key. Initial) w.history event old.serial follows_history;
    }
