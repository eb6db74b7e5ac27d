-- What small steps keep holds in each cluster that they reach.
use Rattle.std.proofs.Common.{◌≡◌, ◌∙◌, ap, refl, sym, subst, ℕ, ◌+◌, ◌<◌, true, false, List, [], ◌∷◌, filter, All, AllPairs, Contains}
use Rattle.std.proofs.lemmas.List.{append-nil}
use Rattle.std.proofs.lemmas.List.Elements.{All-nil}
use Rattle.helios_model.specs.declared.ids.TxnId.{TxnId}
use Rattle.helios_model.specs.declared.records.Record.{Record}
use Rattle.helios_model.specs.declared.records.Record.TheVariants.{Prepare, Commit, Abort}
use Rattle.helios_model.specs.declared.records.CommitEvent.{CommitEvent}
use Rattle.helios_model.specs.Ids.{same_id}
use Rattle.helios_model.specs.Transactions.{Transaction, conflict}
use Rattle.helios_model.specs.Plans.{PlanData, count_of}
use Rattle.helios_model.specs.Log.{prepares, current, event_at, commits}
use Rattle.helios_model.specs.Serial.{Follows, IsSerial}
use Rattle.helios_model.specs.World.{is_own_commit}
use Rattle.helios_model.specs.Sequences.{Mem, Before}
use Rattle.protocol_laws.specs.Pool.{IsBacked, IsApart}
use Rattle.protocol_laws.specs.Order.{OrderLaws}
use Rattle.protocol_laws.specs.Clusters.{Cluster, Honest}
use Rattle.protocol_laws.specs.SmallSteps.{Commits, SmallStep, IsFirst}
use Rattle.protocol_laws.specs.SmallSteps.SmallStep.{Tick, Begin, Finish, Take, Send}
use Rattle.protocol_laws.specs.SmallSteps.IsReached.{Begun, Gone}
use Rattle.protocol_laws.specs.LogLaws.{EndsLater, LogLaws}
use Rattle.protocol_laws.specs.Reach.{HasWaited}
use Rattle.protocol_laws.specs.ClusterHistories.{commit_of}
use Rattle.protocol_laws.specs.Knowledge.{EachClusterIsHonest, EachEndIsTaken}
use Rattle.protocol_laws.specs.ReachedClusters.{IsKept, EachClusterIsKept, EachEndIsSound, EachIdHasOnePrepare, EachConflictIsApart, EachVersionIsCurrent, EachCommitHasSeen, EventsAreCommits, EachHistoryIsHonest, EachConflictCameBefore, EachHistoryIsSerial, EachAbortIsNamed}
use Rattle.protocol_laws.proofs.Ids.{same_id_itself}
use Rattle.protocol_laws.proofs.Sequences.{mem_from_contains, contains_from_mem, before_first}
use Rattle.protocol_laws.proofs.OneMore.{prepare_listed}
use Rattle.protocol_laws.proofs.Committed.{IsEventOf}
use Rattle.protocol_laws.proofs.Cuts.{no_pairs, no_cut}
use Rattle.protocol_laws.proofs.Endings.{one_in_log, ends_once, ends_behind, versions_current}
use Rattle.protocol_laws.proofs.ConflictOrder.{own_later_ends, own_earlier_ends}
use Rattle.protocol_laws.proofs.LogEnds.{IsPreparedBefore, prepared_before}
use Rattle.protocol_laws.proofs.HonestSteps.{honest_first, honest_step, no_end_is_dropped}
use Rattle.protocol_laws.proofs.Growth.{Goes, tick_goes, send_goes, begin_goes, finish_goes, took, take_goes}
use Rattle.protocol_laws.proofs.Reaches.{reach_goes, laws_go}
use Rattle.protocol_laws.proofs.HistoryLinks.{own_events_go, sites_go, same_prepare, IsEventIn, event_home, event_of_commit, aborted_never, versions_named, sent_versions_named}
use Rattle.protocol_laws.proofs.Exclusion.{exclusion}
use Rattle.protocol_laws.proofs.NamedAborts.{aborts_named}
use Rattle.protocol_laws.proofs.SerialClusters.{ordered_goes, distinct_finish, ordered_finish, serial_finish}

pub laws_empty : (site : ℕ) → LogLaws site []
laws_empty site = record {
  pool = record {
    ids = no_pairs (λ (p q : Transaction). same_id p.id q.id ≡ false);
    backed = All-nil (IsBacked []);
    apart = All-nil (λ p. p.id.site ≡ site → IsApart [] p);
    fits = All-nil (λ p. p.id.site ≡ site → Follows (current []) p);
  };
  order = record {
    each = λ before r after cut. absurd (no_cut before r after cut);
    clear = λ p own unended before after cut. absurd (no_cut before (Prepare p) after cut);
  };
  caused = λ before r after cut. absurd (no_cut before r after cut);
  later = All-nil EndsLater;
}

pub kept_first : (plan : PlanData) (w : Cluster) → IsFirst w → IsKept plan w
kept_first plan w f = record {
  honest = honest_first w f;
  laws = λ k. subst (LogLaws k) (sym (f.log k)) (laws_empty k);
  reach = record {
    waited = λ i. subst (All (HasWaited plan w i)) (sym (f.log i)) (All-nil (HasWaited plan w i));
    seen = λ i before r after cut. absurd (no_cut before r after (sym (f.log i) ∙ cut));
  };
  history = record {
    own = λ k. ap (filter (is_own_commit k)) f.history ∙ ap (λ log. filter (is_own_commit k) (commits log)) (sym (f.log k));
    sites = subst (All (λ e. e.prepare.id.site < count_of plan)) (sym f.history) (All-nil (λ e. e.prepare.id.site < count_of plan));
    distinct = subst (AllPairs (λ a b. same_id a.prepare.id b.prepare.id ≡ false)) (sym f.history) (no_pairs (λ a b. same_id a.prepare.id b.prepare.id ≡ false));
  };
  ordered = λ accepted. subst (AllPairs (λ e f2. conflict e.prepare f2.prepare ≡ true → Before (commit_of e) (commit_of f2) (w.log f2.prepare.id.site))) (sym f.history)
      (no_pairs (λ e f2. conflict e.prepare f2.prepare ≡ true → Before (commit_of e) (commit_of f2) (w.log f2.prepare.id.site)));
  serial = λ accepted. subst IsSerial (sym f.history) (record { distinct = no_pairs (λ a b. same_id a.prepare.id b.prepare.id ≡ false); serial = tt });
}

-- a step at which nothing commits
kept_quiet : (plan : PlanData) (w v : Cluster) (s : ℕ) (more : List Record) → IsKept plan w → Honest v → Goes plan w v s more [] → IsKept plan v
kept_quiet plan w v s more kept honest g = record {
  honest = honest;
  laws = laws_go plan w v s more [] kept.honest kept.reach g kept.laws;
  reach = reach_goes plan w v s more [] kept.honest kept.reach g;
  history = record {
    own = λ k. own_events_go plan w v s more [] (kept.laws s) g k (kept.history.own k);
    sites = sites_go plan w v s more [] (kept.laws s) g kept.history.sites;
    distinct = subst (AllPairs (λ a b. same_id a.prepare.id b.prepare.id ≡ false)) (sym same) kept.history.distinct;
  };
  ordered = λ accepted. subst (AllPairs (λ e f. conflict e.prepare f.prepare ≡ true → Before (commit_of e) (commit_of f) (v.log f.prepare.id.site))) (sym same)
      (ordered_goes plan w v s more [] g (kept.ordered accepted));
  serial = λ accepted. subst IsSerial (sym same) (kept.serial accepted);
}
  where
    same : v.history ≡ w.history
    same = g.history ∙ append-nil w.history

kept_finish : (plan : PlanData) (w v : Cluster) (s : ℕ) (p : Transaction) → s < count_of plan → IsKept plan w → Honest v → Commits plan w v s p → IsKept plan v
kept_finish plan w v s p low kept honest c = record {
  honest = honest;
  laws = laws_go plan w v s new events kept.honest kept.reach g kept.laws;
  reach = reach_goes plan w v s new events kept.honest kept.reach g;
  history = record {
    own = λ k. own_events_go plan w v s new events (kept.laws s) g k (kept.history.own k);
    sites = sites_go plan w v s new events (kept.laws s) g kept.history.sites;
    distinct = subst (AllPairs (λ a b. same_id a.prepare.id b.prepare.id ≡ false)) (sym g.history)
        (distinct_finish plan w v s p kept.honest kept.laws kept.reach kept.history low c);
  };
  ordered = λ accepted. subst (AllPairs (λ e f. conflict e.prepare f.prepare ≡ true → Before (commit_of e) (commit_of f) (v.log f.prepare.id.site))) (sym g.history)
      (ordered_finish plan w v s p kept.honest kept.laws kept.reach kept.history low c accepted (kept.ordered accepted)
      (ordered_goes plan w v s new events g (kept.ordered accepted)));
  serial = λ accepted. subst IsSerial (sym g.history)
      (serial_finish plan w v s p kept.honest kept.laws kept.reach kept.history low c accepted (kept.ordered accepted) (kept.serial accepted));
}
  where
    new : List Record
    new = Commit p.id (w.tab s s s + 1) ∷ []

    events : List CommitEvent
    events = event_at (w.tab s s s + 1) p ∷ []

    g : Goes plan w v s new events
    g = finish_goes plan w v s p low kept.honest (kept.laws s) c

pub kept_step : (plan : PlanData) (w v : Cluster) → IsKept plan w → SmallStep plan w v → IsKept plan v
kept_step plan w v kept step = by_step step (honest_step plan w v kept.honest (λ k. (kept.laws k).order) step)
  where
    by_step : SmallStep plan w v → Honest v → IsKept plan v
    by_step (Tick s low o) honest = kept_quiet plan w v s [] kept honest (tick_goes plan w v s (kept.laws s) o)
    by_step (Begin s low p b) honest = kept_quiet plan w v s (Prepare p ∷ []) kept honest (begin_goes plan w v s p kept.honest (kept.laws s) b)
    by_step (Finish s low p c) honest = kept_finish plan w v s p low kept honest c
    by_step (Take s low m t) honest = kept_quiet plan w v s (took plan w v s m kept.honest kept.laws t).more kept honest (take_goes plan w v s m kept.honest kept.laws t)
    by_step (Send m low o) honest = kept_quiet plan w v m.sender [] kept honest (send_goes plan w v m (kept.laws m.sender) o)

pub each_cluster_is_kept : EachClusterIsKept
each_cluster_is_kept plan w (Begun f) = kept_first plan w f
each_cluster_is_kept plan w (Gone {w = u} r step) = kept_step plan u w (each_cluster_is_kept plan u r) step

pub each_cluster_is_honest : EachClusterIsHonest
each_cluster_is_honest plan w r = (each_cluster_is_kept plan w r).honest

pub each_end_is_taken : EachEndIsTaken
each_end_is_taken plan w r =
    let kept : IsKept plan w = each_cluster_is_kept plan w r in
    no_end_is_dropped w kept.honest (λ k. (kept.laws k).order)

pub each_end_is_sound : EachEndIsSound
each_end_is_sound plan w r k =
    let laws : LogLaws k (w.log k) = (each_cluster_is_kept plan w r).laws k in
    record {
      given_once = laws.pool.ids;
      behind = ends_behind k (w.log k) laws;
      once = ends_once k (w.log k) laws.order;
    }

pub each_id_has_one_prepare : EachIdHasOnePrepare
each_id_has_one_prepare plan w r i j p q at_p at_q same =
    same_prepare w (each_cluster_is_kept plan w r).honest i j p q (prepare_listed (w.log i) p (contains_from_mem (w.log i) (Prepare p) at_p))
    (prepare_listed (w.log j) q (contains_from_mem (w.log j) (Prepare q) at_q)) same

pub each_conflict_is_apart : EachConflictIsApart
each_conflict_is_apart plan w r k =
    let order : OrderLaws k (w.log k) = ((each_cluster_is_kept plan w r).laws k).order in
    record {
      clear = order.clear;
      own_later = λ p q. own_later_ends k (w.log k) p q order;
      own_earlier = λ p q. own_earlier_ends k (w.log k) p q order;
    }

pub each_version_is_current : EachVersionIsCurrent
each_version_is_current plan w r k = versions_current k (w.log k) ((each_cluster_is_kept plan w r).laws k).order

pub each_commit_has_seen : EachCommitHasSeen
each_commit_has_seen plan w r = (each_cluster_is_kept plan w r).reach

-- a Prepare of a log stands before the Commit of its id
prepared_first : (site : ℕ) (log : List Record) (p : Transaction) (id : TxnId) (time : ℕ) → LogLaws site log → Contains (prepares log) p → p.id ≡ id
    → Mem (Commit id time) log → Before (Prepare p) (Commit id time) log
prepared_first site log p id time laws listed named there =
    let found : IsPreparedBefore log id (Commit id time) = prepared_before site log laws.order.each id (Commit id time) there (same_id_itself id) in
    let stands : Contains (prepares log) found.prepare =
    prepare_listed log found.prepare (contains_from_mem log (Prepare found.prepare) (before_first (Prepare found.prepare) (Commit id time) log found.stands)) in
    let one : found.prepare ≡ p = one_in_log log found.prepare p laws.pool.ids stands listed (found.named ∙ sym named) in
    subst (λ q. Before (Prepare q) (Commit id time) log) one found.stands

pub events_are_commits : (plan : PlanData) (w : Cluster) → IsKept plan w → EventsAreCommits w
events_are_commits plan w kept = record {
  home = λ e there.
      let here : IsEventOf (w.log e.prepare.id.site) e = event_home plan w kept.honest kept.laws kept.history e there in
      prepared_first e.prepare.id.site (w.log e.prepare.id.site) e.prepare e.prepare.id e.time (kept.laws e.prepare.id.site) here.prepared refl
      (mem_from_contains (w.log e.prepare.id.site) (commit_of e) here.committed);
  commit = λ i id time there.
      let found : IsEventIn w i id time =
      event_of_commit plan w kept.honest kept.laws kept.history i id time (contains_from_mem (w.log i) (Commit id time) there) in
      record {
        event = found.event;
        stands = found.stands;
        named = found.named;
        timed = found.timed;
        prepared = prepared_first i (w.log i) found.event.prepare id time (kept.laws i) found.prepared found.named there;
      };
  never_aborted = λ i id time cause e there.
      aborted_never plan w kept.honest kept.laws kept.history i id time cause e (contains_from_mem (w.log i) (Abort id time cause) there);
  named = λ i p there. versions_named plan w kept.honest kept.laws kept.history i p (contains_from_mem (w.log i) (Prepare p) there);
  sent = λ m p came there. sent_versions_named plan w kept.honest kept.laws kept.history m p came (contains_from_mem m.records (Prepare p) there);
}

pub each_history_is_honest : EachHistoryIsHonest
each_history_is_honest plan w r =
    let kept : IsKept plan w = each_cluster_is_kept plan w r in
    (kept.history, events_are_commits plan w kept)

pub each_conflict_came_before : EachConflictCameBefore
each_conflict_came_before plan w r accepted v s p e low c there conflicts =
    let kept : IsKept plan w = each_cluster_is_kept plan w r in
    exclusion plan w v s p e kept.honest kept.laws kept.reach kept.history low c there conflicts accepted

pub each_history_is_serial : EachHistoryIsSerial
each_history_is_serial plan w r accepted =
    let kept : IsKept plan w = each_cluster_is_kept plan w r in
    (kept.serial accepted, kept.ordered accepted)

pub each_abort_is_named : EachAbortIsNamed
each_abort_is_named plan w r =
    let kept : IsKept plan w = each_cluster_is_kept plan w r in
    aborts_named w kept.honest kept.laws
