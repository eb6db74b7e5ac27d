-- The history and the logs tell of the same commits.
use Rattle.std.proofs.Common.{◌≡◌, ◌≢◌, ◌∙◌, ap, refl, sym, subst, ℕ, ◌<◌, true, false, ◌⊎◌, inl, inr, Some, option_map, is_some, eq-eqb, eqb-true, ne_eqb, List, ◌∷◌, ◌++◌, get_or, filter, filter_map, All, Contains}
use Rattle.std.proofs.lemmas.List.{append-nil}
use Rattle.std.proofs.lemmas.List.Elements.{All-append, All-contains, filter-append, filter_passes, Contains-append_left}
use Rattle.std.proofs.lemmas.Bool.{cases_eq, both_ways}
use Rattle.helios_model.specs.declared.ids.TxnId.{TxnId}
use Rattle.helios_model.specs.declared.ids.Version.{Version}
use Rattle.helios_model.specs.declared.ids.Version.TheVariants.{Initial, Of}
use Rattle.helios_model.specs.declared.records.Record.{Record}
use Rattle.helios_model.specs.declared.records.Record.TheVariants.{Prepare, Commit, Abort}
use Rattle.helios_model.specs.declared.records.CommitEvent.{CommitEvent}
use Rattle.helios_model.specs.Transactions.{Transaction}
use Rattle.helios_model.specs.Plans.{PlanData, count_of}
use Rattle.helios_model.specs.Log.{ends, finished, prepares, prepare_of, event_at, commit_in, commits, current}
use Rattle.helios_model.specs.NamedAbort.{IsVersionIn}
use Rattle.helios_model.specs.World.{is_own_commit}
use Rattle.helios_model.specs.Sequences.{Mem}
use Rattle.protocol_laws.specs.Pool.{IsBacked}
use Rattle.protocol_laws.specs.Order.{IsAsked}
use Rattle.protocol_laws.specs.Clusters.{Letter, Cluster, Honest}
use Rattle.protocol_laws.specs.LogLaws.{LogLaws}
use Rattle.protocol_laws.specs.ClusterHistories.{IsHistory, NamesEvents}
use Rattle.protocol_laws.proofs.Lists.{any_from, contains_filter, contains_from_filter, contains_filter_map, keeps_all}
use Rattle.protocol_laws.proofs.Ids.{same_id_of, same_id_itself}
use Rattle.protocol_laws.proofs.Sequences.{mem_from_contains, contains_from_mem, filter_none}
use Rattle.protocol_laws.proofs.KnownRecords.{home, letter_home, same_record}
use Rattle.protocol_laws.proofs.OneMore.{prepare_stands, prepare_listed}
use Rattle.protocol_laws.proofs.Committed.{commits_grown, IsEventOf, event_of}
use Rattle.protocol_laws.proofs.CurrentVersions.{current_named}
use Rattle.protocol_laws.proofs.Cuts.{contains_cut}
use Rattle.protocol_laws.proofs.Endings.{prepare_found, one_in_log}
use Rattle.protocol_laws.proofs.LogEnds.{same_end}
use Rattle.protocol_laws.proofs.Growth.{Goes}

-- the events of a site stay its own Commits as its log grows
module _ (plan : PlanData) (w v : Cluster) (s : ℕ) (more : List Record) (events : List CommitEvent) (laws : LogLaws s (w.log s)) (g : Goes plan w v s more events)
  where
    events_own : All (λ e. is_own_commit s e ≡ true) events
    events_own = subst (All (λ e. is_own_commit s e ≡ true)) g.gained (filter_passes (is_own_commit s) (filter_map (commit_in (w.log s ++ more)) more))

    own_here : filter (is_own_commit s) w.history ≡ filter (is_own_commit s) (commits (w.log s)) → filter (is_own_commit s) v.history ≡ filter (is_own_commit s) (commits (v.log s))
    own_here old =
        ap (filter (is_own_commit s)) g.history
        ∙ filter-append (is_own_commit s) w.history events
        ∙ ap (λ es. filter (is_own_commit s) w.history ++ es) (keeps_all (is_own_commit s) events events_own ∙ sym g.gained)
        ∙ ap (λ es. es ++ filter (is_own_commit s) (filter_map (commit_in (w.log s ++ more)) more)) old
        ∙ sym (filter-append (is_own_commit s) (commits (w.log s)) (filter_map (commit_in (w.log s ++ more)) more))
        ∙ ap (filter (is_own_commit s)) (sym (commits_grown (w.log s) more laws.pool.backed))
        ∙ ap (λ log. filter (is_own_commit s) (commits log)) (sym g.log)

    own_elsewhere : (k : ℕ) → k ≢ s → filter (is_own_commit k) w.history ≡ filter (is_own_commit k) (commits (w.log k))
        → filter (is_own_commit k) v.history ≡ filter (is_own_commit k) (commits (v.log k))
    own_elsewhere k apart old =
        ap (filter (is_own_commit k)) g.history
        ∙ filter-append (is_own_commit k) w.history events
        ∙ ap (λ es. filter (is_own_commit k) w.history ++ es) (filter_none (is_own_commit k) events (λ e there.
        ne_eqb e.prepare.id.site k (λ same. apart (sym same ∙ eqb-true e.prepare.id.site s
        (All-contains (λ x. is_own_commit s x ≡ true) events e events_own (contains_from_mem events e there))))))
        ∙ append-nil (filter (is_own_commit k) w.history)
        ∙ old
        ∙ ap (λ log. filter (is_own_commit k) (commits log)) (sym (g.other_log k apart))

    pub own_events_go : (k : ℕ) → filter (is_own_commit k) w.history ≡ filter (is_own_commit k) (commits (w.log k))
        → filter (is_own_commit k) v.history ≡ filter (is_own_commit k) (commits (v.log k))
    own_events_go k old = by_site (cases_eq k s)
      where
        by_site : (k ≡ s) ⊎ (k ≡ s → ⊥) → filter (is_own_commit k) v.history ≡ filter (is_own_commit k) (commits (v.log k))
        by_site (inl same) = subst (λ i. filter (is_own_commit i) v.history ≡ filter (is_own_commit i) (commits (v.log i))) (sym same)
            (own_here (subst (λ i. filter (is_own_commit i) w.history ≡ filter (is_own_commit i) (commits (w.log i))) same old))
        by_site (inr apart) = own_elsewhere k apart old

    pub sites_go : All (λ e. e.prepare.id.site < count_of plan) w.history → All (λ e. e.prepare.id.site < count_of plan) v.history
    sites_go old = subst (All (λ e. e.prepare.id.site < count_of plan)) (sym g.history)
        (All-append (λ e. e.prepare.id.site < count_of plan) w.history events old g.placed)

-- two Prepares of one id in any two logs are the same
pub same_prepare : (w : Cluster) → Honest w → (i j : ℕ) (p q : Transaction) → Contains (prepares (w.log i)) p → Contains (prepares (w.log j)) q → p.id ≡ q.id → p ≡ q
same_prepare w h i j p q at_p at_q same =
    let one : Prepare p ≡ Prepare q =
    same_record w h i j (Prepare p) (Prepare q) (mem_from_contains (w.log i) (Prepare p) (prepare_stands (w.log i) p at_p))
    (mem_from_contains (w.log j) (Prepare q) (prepare_stands (w.log j) q at_q)) (ap (λ x. x.site) same) (ap (λ x. x.time) same) in
    cc

-- a Commit of a log, with the event that it is
pub record IsEventIn (w : Cluster) (i : ℕ) (id : TxnId) (time : ℕ) : Type 0 where
  pub event : CommitEvent
  pub stands : Contains w.history event
  pub named : event.prepare.id ≡ id
  pub timed : event.time ≡ time
  pub prepared : Contains (prepares (w.log i)) event.prepare

module _ (plan : PlanData) (w : Cluster) (h : Honest w) (laws : (k : ℕ) → LogLaws k (w.log k)) (history : IsHistory plan w) where
  -- the Prepare and the Commit of an event stand in the log of its site
  pub event_home : (e : CommitEvent) → Contains w.history e → IsEventOf (w.log e.prepare.id.site) e
  event_home e there =
      let own : Contains (filter (is_own_commit e.prepare.id.site) w.history) e =
      contains_filter (is_own_commit e.prepare.id.site) w.history e there (eq-eqb e.prepare.id.site e.prepare.id.site refl) in
      let moved : Contains (filter (is_own_commit e.prepare.id.site) (commits (w.log e.prepare.id.site))) e =
      subst (λ es. Contains es e) (history.own e.prepare.id.site) own in
      event_of (w.log e.prepare.id.site) e (contains_from_filter (is_own_commit e.prepare.id.site) (commits (w.log e.prepare.id.site)) e moved).0

  -- a Commit in any log is that of an event of the history, and its Prepare is in that log too
  pub event_of_commit : (i : ℕ) (id : TxnId) (time : ℕ) → Contains (w.log i) (Commit id time) → IsEventIn w i id time
  event_of_commit i id time there =
      let at_home : Contains (w.log id.site) (Commit id time) =
      contains_from_mem (w.log id.site) (Commit id time) (home w h i (Commit id time) (mem_from_contains (w.log i) (Commit id time) there)).there in
      let backed : is_some (prepare_of (w.log id.site) id) ≡ true = All-contains (IsBacked (w.log id.site)) (w.log id.site) (Commit id time) (laws id.site).pool.backed at_home in
      let found = prepare_found (w.log id.site) id backed in
      let near : is_some (prepare_of (w.log i) id) ≡ true = All-contains (IsBacked (w.log i)) (w.log i) (Commit id time) (laws i).pool.backed there in
      let local = prepare_found (w.log i) id near in
      let in_log : Contains (commits (w.log id.site)) (event_at time found.0) =
      contains_filter_map (commit_in (w.log id.site)) (w.log id.site) (Commit id time) (event_at time found.0) at_home (ap (option_map (event_at time)) found.1) in
      let kept : Contains (filter (is_own_commit id.site) (commits (w.log id.site))) (event_at time found.0) =
      contains_filter (is_own_commit id.site) (commits (w.log id.site)) (event_at time found.0) in_log (eq-eqb found.0.id.site id.site (ap (λ x. x.site) found.3)) in
      record {
        event = event_at time found.0;
        stands = (contains_from_filter (is_own_commit id.site) w.history (event_at time found.0)
            (subst (λ es. Contains es (event_at time found.0)) (sym (history.own id.site)) kept)).0;
        named = found.3;
        timed = refl;
        prepared = subst (λ p. Contains (prepares (w.log i)) p) (same_prepare w h i id.site local.0 found.0 local.2 found.2 (local.3 ∙ sym found.3)) local.2;
      }

  -- what is committed in a log is an event of the history
  pub known_event : (i : ℕ) (e : CommitEvent) → IsEventOf (w.log i) e → Contains w.history e
  known_event i e here =
      let in_history : IsEventIn w i e.prepare.id e.time = event_of_commit i e.prepare.id e.time here.committed in
      let prepare : in_history.event.prepare ≡ e.prepare =
      one_in_log (w.log i) in_history.event.prepare e.prepare (laws i).pool.ids in_history.prepared here.prepared in_history.named in
      let time : in_history.event.time ≡ e.time = in_history.timed in
      let same : in_history.event ≡ e = λ k. record { prepare = prepare k; time = time k } in
      subst (Contains w.history) same in_history.stands

  -- an event whose Commit stands in a log is one of the log's commits
  pub event_here : (i : ℕ) (e : CommitEvent) → Contains w.history e → Contains (w.log i) (Commit e.prepare.id e.time) → Contains (commits (w.log i)) e
  event_here i e in_history there =
      let backed : is_some (prepare_of (w.log i) e.prepare.id) ≡ true =
      All-contains (IsBacked (w.log i)) (w.log i) (Commit e.prepare.id e.time) (laws i).pool.backed there in
      let found = prepare_found (w.log i) e.prepare.id backed in
      let one : found.0 ≡ e.prepare = same_prepare w h i e.prepare.id.site found.0 e.prepare found.2 (event_home e in_history).prepared found.3 in
      contains_filter_map (commit_in (w.log i)) (w.log i) (Commit e.prepare.id e.time) e there
      (ap (option_map (event_at e.time)) (found.1 ∙ ap Some one))

  -- what is aborted in any log is in no event
  pub aborted_never : (i : ℕ) (id : TxnId) (time : ℕ) (cause : TxnId) (e : CommitEvent) → Contains (w.log i) (Abort id time cause) → Contains w.history e
      → e.prepare.id ≡ id → ⊥
  aborted_never i id time cause e there in_history named =
      let committed : Contains (w.log e.prepare.id.site) (Commit e.prepare.id e.time) = (event_home e in_history).committed in
      let same : Abort id time cause ≡ Commit e.prepare.id e.time =
      same_end w h (λ k. (laws k).order.each) id i e.prepare.id.site (Abort id time cause) (Commit e.prepare.id e.time)
      (mem_from_contains (w.log i) (Abort id time cause) there)
      (mem_from_contains (w.log e.prepare.id.site) (Commit e.prepare.id e.time) committed) (same_id_itself id) (same_id_of e.prepare.id id named) in
      cc

  -- an id that is not ended at its site is in no event
  pub unended_never : (s : ℕ) (id : TxnId) (e : CommitEvent) → id.site ≡ s → finished (w.log s) id ≡ false → Contains w.history e → e.prepare.id ≡ id → ⊥
  unended_never s id e own unended in_history named =
      let committed : Contains (w.log s) (Commit e.prepare.id e.time) =
      subst (λ k. Contains (w.log k) (Commit e.prepare.id e.time)) (ap (λ x. x.site) named ∙ own) (event_home e in_history).committed in
      both_ways (finished (w.log s) id) unended (any_from (ends id) (w.log s) (Commit e.prepare.id e.time) committed (same_id_of e.prepare.id id named))

  version_stands : (key : List ℕ) (version : Version) (before log : List Record) → ((r : Record) → Contains before r → Contains log r)
      → IsVersionIn w.history before key version → IsVersionIn w.history log key version
  version_stands key Initial before log stands v = tt
  version_stands key (Of id) before log stands v = record {
    event = v.event;
    stands = v.stands;
    named = v.named;
    writes = v.writes;
    logged = stands (Commit id v.event.time) v.logged;
  }

  -- a version that a Prepare at home names is that of an event whose Commit stands there
  named_at_home : (p : Transaction) → Contains (w.log p.id.site) (Prepare p) → NamesEvents w p
  named_at_home p there = record {
    reads = λ k d low. named (get_or p.reads k d).key (get_or p.reads k d).version (asked.follows.reads k d low);
    writes = λ k d low. named (get_or p.writes k d).key (get_or p.writes k d).over (asked.follows.writes k d low);
  }
    where
      cut : (before : List Record) × (after : List Record) × (w.log p.id.site ≡ before ++ Prepare p ∷ after)
      cut = contains_cut (w.log p.id.site) (Prepare p) there

      asked : IsAsked cut.0 p
      asked = ((laws p.id.site).order.each cut.0 (Prepare p) cut.1 cut.2).1 refl

      in_log : (r : Record) → Contains cut.0 r → Contains (w.log p.id.site) r
      in_log r early = subst (λ l. Contains l r) (sym cut.2) (Contains-append_left cut.0 (Prepare p ∷ cut.1) r early)

      known : (e : CommitEvent) → Contains (commits cut.0) e → Contains w.history e
      known e early =
          let here : IsEventOf cut.0 e = event_of cut.0 e early in
          known_event p.id.site e (record {
            committed = in_log (Commit e.prepare.id e.time) here.committed;
            prepared = prepare_listed (w.log p.id.site) e.prepare (in_log (Prepare e.prepare) (prepare_stands cut.0 e.prepare here.prepared));
          })

      named : (key : List ℕ) (version : Version) → version ≡ current cut.0 key → IsVersionIn w.history (w.log p.id.site) key version
      named key version same =
          version_stands key version cut.0 (w.log p.id.site) in_log (subst (IsVersionIn w.history cut.0 key) (sym same) (current_named w.history cut.0 key known))

  pub versions_named : (i : ℕ) (p : Transaction) → Contains (w.log i) (Prepare p) → NamesEvents w p
  versions_named i p there =
      named_at_home p (contains_from_mem (w.log p.id.site) (Prepare p) (home w h i (Prepare p) (mem_from_contains (w.log i) (Prepare p) there)).there)

  pub sent_versions_named : (m : Letter) (p : Transaction) → Mem m w.sent → Contains m.records (Prepare p) → NamesEvents w p
  sent_versions_named m p came there =
      named_at_home p (contains_from_mem (w.log p.id.site) (Prepare p)
      (letter_home w m (h.sent m came) (Prepare p) (mem_from_contains m.records (Prepare p) there)).there)
