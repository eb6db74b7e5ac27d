-- Each world that steps reach is, as a cluster, reached by small steps.
use Rattle.std.proofs.Common.{◌≡◌, ◌≢◌, ◌∙◌, ap, refl, sym, subst, ℕ, ◌<◌, ◌≤◌, true, ◌⊎◌, inl, inr, List, [], ◌∷◌, ◌++◌, length, replicate, filter, filter_map, flat_map, All, arith}
use Rattle.std.proofs.Math.Seq.{drop-append_seam}
use Rattle.std.proofs.lemmas.List.{append-nil, append_cancel_left, get_or_past, length-replicate, map-append}
use Rattle.std.proofs.lemmas.List.Elements.{All-nil, All-weaker, filter-append}
use Rattle.std.proofs.lemmas.Bool.{cases_eq, cases_lt}
use Rattle.helios_model.specs.declared.entries.Entry.{Entry}
use Rattle.helios_model.specs.declared.entries.Input.{Input}
use Rattle.helios_model.specs.declared.entries.Input.TheVariants.{Get, Status, Request, Pull, Push}
use Rattle.helios_model.specs.declared.records.Record.{Record}
use Rattle.helios_model.specs.declared.records.CommitEvent.{CommitEvent}
use Rattle.helios_model.specs.Plans.{PlanData, count_of}
use Rattle.helios_model.specs.Log.{commit_in, commits}
use Rattle.helios_model.specs.Sequences.{Mem}
use Rattle.helios_model.specs.Node.{Node, empty_node}
use Rattle.helios_model.specs.Step.{after_entries}
use Rattle.helios_model.specs.World.{World, Ending, Event, IsBatch, IsReleased, MayHappen, MayRun, done, entries_of, first_world, happens, is_own_commit, kept, messages_in, node_of, own_commits, replies, run}
use Rattle.helios_model.specs.World.Event.{Batch, Restart}
use Rattle.helios_model.specs.World.Ending.{Done, Kept, Lost}
use Rattle.protocol_laws.specs.Pool.{IsBacked}
use Rattle.protocol_laws.specs.Histories.{GrowsTo}
use Rattle.protocol_laws.specs.Clusters.{Letter}
use Rattle.protocol_laws.specs.SmallSteps.{IsReached}
use Rattle.protocol_laws.specs.SmallSteps.SmallStep.{Tick}
use Rattle.protocol_laws.specs.SmallSteps.IsReached.{Begun, Gone}
use Rattle.protocol_laws.specs.Views.{cluster_of, letter_of, letters_of, table_of, within}
use Rattle.protocol_laws.proofs.Lists.{contains_map, keeps_all}
use Rattle.protocol_laws.proofs.Committed.{commits_grown}
use Rattle.protocol_laws.proofs.Sequences.{mem_from_contains, mem_left}
use Rattle.protocol_laws.proofs.Worlds.{first_entries, first_journals, journals_stay, kept_elsewhere, kept_here}
use Rattle.protocol_laws.proofs.Placed.{node_placed, placed_entries}
use Rattle.protocol_laws.proofs.NodeRules.{empty_known, node_steady}
use Rattle.protocol_laws.proofs.WorldGrowth.{GoesOn, entries_go}
use Rattle.protocol_laws.proofs.Later.{IsLater, later_itself, later_on, later_same}
use Rattle.protocol_laws.proofs.Views.{within_nothing}
use Rattle.protocol_laws.proofs.ReachedClusters.{each_cluster_is_kept}
use Rattle.protocol_laws.proofs.Chains.{IsShown}
use Rattle.protocol_laws.proofs.Inputs.{HasCome, entries_shown}

-- the own Commits behind the first records are those that the log gained
own_gained : (site : ℕ) (log more : List Record) → All (IsBacked log) log
    → filter (is_own_commit site) (commits (log ++ more)) ≡ filter (is_own_commit site) (commits log) ++ own_commits site (log ++ more) (length log)
own_gained site log more backed =
    ap (filter (is_own_commit site)) (commits_grown log more backed)
    ∙ filter-append (is_own_commit site) (commits log) (filter_map (commit_in (log ++ more)) more)
    ∙ ap (λ rs. filter (is_own_commit site) (commits log) ++ filter (is_own_commit site) (filter_map (commit_in (log ++ more)) rs))
    (sym (drop-append_seam log more))

-- where the history is that of the logs before and after, what it gained is what the log gained
events_gained : (site : ℕ) (log after : List Record) (history events : List CommitEvent) → All (IsBacked log) log → GrowsTo log after
    → All (λ e. is_own_commit site e ≡ true) events
    → filter (is_own_commit site) history ≡ filter (is_own_commit site) (commits log)
    → filter (is_own_commit site) (history ++ events) ≡ filter (is_own_commit site) (commits after)
    → own_commits site after (length log) ≡ events
events_gained site log after history events backed grows own before now =
    let gained : filter (is_own_commit site) (commits after) ≡ filter (is_own_commit site) (commits log) ++ own_commits site after (length log) =
    subst (λ l. filter (is_own_commit site) (commits l) ≡ filter (is_own_commit site) (commits log) ++ own_commits site l (length log))
    (sym grows.grown) (own_gained site log grows.more backed) in
    append_cancel_left (filter (is_own_commit site) (commits log)) (own_commits site after (length log)) events
    (sym gained ∙ sym now ∙ filter-append (is_own_commit site) history events
    ∙ ap (λ es. filter (is_own_commit site) history ++ es) (keeps_all (is_own_commit site) events own)
    ∙ ap (λ es. es ++ events) before)

pub first_entries_none : (plan : PlanData) (k : ℕ) → entries_of (first_world plan) k ≡ []
first_entries_none plan k = by_site (cases_lt k (count_of plan))
  where
    by_site : (k < count_of plan) ⊎ (count_of plan ≤ k) → entries_of (first_world plan) k ≡ []
    by_site (inl low) = first_entries plan k low
    by_site (inr high) = ap (flat_map (λ batch. batch)) (get_or_past (replicate (count_of plan) []) k [] (rw length-replicate high))

pub first_reached : (plan : PlanData) → IsReached plan (cluster_of plan (first_world plan))
first_reached plan = Begun (record {
  log = λ i. ap (λ es. (after_entries plan (empty_node plan i) es).log) (first_entries_none plan i);
  tab = λ i a b. ap (λ es. table_of plan (after_entries plan (empty_node plan i) es) a b) (first_entries_none plan i)
      ∙ ap (within (count_of plan) a b) (empty_known plan i a b)
      ∙ within_nothing (count_of plan) a b;
  sent = refl;
  history = refl;
})

released_came : (plan : PlanData) (w : World) (input : Input) → IsReleased w input → HasCome plan (letters_of plan w.sent) input
released_came plan w (Get key) h = tt
released_came plan w (Status id) h = tt
released_came plan w (Request ask) h = tt
released_came plan w (Pull to) h = tt
released_came plan w (Push m) h = mem_from_contains (letters_of plan w.sent) (letter_of plan m) (contains_map (letter_of plan) w.sent m h)

-- a later world: as a cluster, small steps reach it, and its logs have grown
pub record IsGone (plan : PlanData) (w v : World) : Type 0 where
  pub reached : IsReached plan (cluster_of plan v)
  pub later : IsLater (cluster_of plan w) (cluster_of plan v)

goes_nowhere : (plan : PlanData) (w : World) → IsReached plan (cluster_of plan w) → IsGone plan w w
goes_nowhere plan w reached = record { reached = reached; later = later_itself (cluster_of plan w) }

module _ (plan : PlanData) where
  -- a site of a world, before its batch
  begun : (w : World) (s : ℕ) → IsReached plan (cluster_of plan w) → IsShown plan (cluster_of plan w) (node_of plan w s) (letters_of plan w.sent)
  begun w s reached =
      let here : (node_of plan w s).site ≡ s = (node_placed plan w s).at_site in
      record {
        cluster = cluster_of plan w;
        reached = reached;
        same_log = ap (λ k. (node_of plan w k).log) here;
        same_tab = λ a b. ap (λ k. table_of plan (node_of plan w k) a b) here;
        other_log = λ i apart. refl;
        other_tab = λ i a b apart. refl;
        sent = refl;
        events = [];
        history = sym (append-nil w.history);
        own = All-nil (λ e. is_own_commit (node_of plan w s).site e ≡ true);
        later = later_itself (cluster_of plan w);
      }

  -- a world in which the site's node is as it is shown, and nothing else has changed but what was sent and committed
  ended : (w v : World) (s : ℕ) (m : Node) (letters : List Letter) → s < count_of plan → m.site ≡ s
      → (shown : IsShown plan (cluster_of plan w) m letters) → node_of plan v s ≡ m
      → ((i : ℕ) → i ≢ s → node_of plan v i ≡ node_of plan w i)
      → ((x : Letter) → Mem x (letters_of plan v.sent) → Mem x letters)
      → v.history ≡ w.history ++ shown.events → IsGone plan w v
  ended w v s m letters low here shown at_site elsewhere sent history = record {
    reached = Gone shown.reached (Tick s low (record {
      moves = record {
        other_log = other_logs;
        other_tab = other_tabs;
        log = log_here ∙ sym (append-nil (shown.cluster.log s));
        tab = λ a b. let same : table_of plan (node_of plan v s) a b ≡ shown.cluster.tab s a b = tab_here a b in omega arith;
        history = history ∙ sym shown.history ∙ sym (append-nil shown.cluster.history);
      };
      others = λ a b apart. tab_here a b;
      sent = λ x there. subst (λ l. Mem x l) (sym shown.sent) (sent x there);
    }));
    later = later_same (cluster_of plan w) shown.cluster (cluster_of plan v) shown.later (λ i. logs i (cases_eq i s)) (λ i. clocks i (cases_eq i s));
  }
    where
      log_here : (node_of plan v s).log ≡ shown.cluster.log s
      log_here = ap (λ n. n.log) at_site ∙ sym shown.same_log ∙ ap shown.cluster.log here

      tab_here : (a b : ℕ) → table_of plan (node_of plan v s) a b ≡ shown.cluster.tab s a b
      tab_here a b = ap (λ n. table_of plan n a b) at_site ∙ sym (shown.same_tab a b) ∙ ap (λ k. shown.cluster.tab k a b) here

      other_logs : (i : ℕ) → i ≢ s → (node_of plan v i).log ≡ shown.cluster.log i
      other_logs i apart = ap (λ n. n.log) (elsewhere i apart) ∙ sym (shown.other_log i (λ same. apart (same ∙ here)))

      other_tabs : (i a b : ℕ) → i ≢ s → table_of plan (node_of plan v i) a b ≡ shown.cluster.tab i a b
      other_tabs i a b apart = ap (λ n. table_of plan n a b) (elsewhere i apart) ∙ sym (shown.other_tab i a b (λ same. apart (same ∙ here)))

      logs : (i : ℕ) → (i ≡ s) ⊎ (i ≡ s → ⊥) → (node_of plan v i).log ≡ shown.cluster.log i
      logs i (inl same) = subst (λ k. (node_of plan v k).log ≡ shown.cluster.log k) (sym same) log_here
      logs i (inr apart) = other_logs i apart

      clocks : (i : ℕ) → (i ≡ s) ⊎ (i ≡ s → ⊥) → table_of plan (node_of plan v i) i i ≡ shown.cluster.tab i i i
      clocks i (inl same) = subst (λ k. table_of plan (node_of plan v k) k k ≡ shown.cluster.tab k k k) (sym same) (tab_here s s)
      clocks i (inr apart) = other_tabs i i i apart

  module _ (w : World) (s : ℕ) (entries : List Entry) (ending : Ending) (reached : IsReached plan (cluster_of plan w)) (many : length w.journals ≡ count_of plan)
      (may : IsBatch plan w s entries ending) where
    abbrev after : Node
    after = after_entries plan (node_of plan w s) entries

    abbrev letters : List Letter
    letters = letters_of plan w.sent ++ letters_of plan (messages_in (replies plan (node_of plan w s) entries))

    shown : IsShown plan (cluster_of plan w) after letters
    shown =
        entries_shown plan (cluster_of plan w) s may.here (node_of plan w s) entries (letters_of plan w.sent) (node_placed plan w s) may.each
        (All-weaker (λ e. IsReleased w e.input) (λ e. HasCome plan (letters_of plan w.sent) e.input) (λ e there. released_came plan w e.input there)
        entries may.released)
        (begun w s reached)

    here : after.site ≡ s
    here = (placed_entries plan s (node_of plan w s) entries (node_placed plan w s)).at_site

    grows : GrowsTo (node_of plan w s).log after.log
    grows =
        let gone : GoesOn plan (node_of plan w s) after = entries_go plan (node_of plan w s) entries (node_steady plan w s may.here) in
        record { more = gone.more; grown = gone.grown }

    committed : own_commits s after.log (length (node_of plan w s).log) ≡ shown.events
    committed =
        events_gained s (node_of plan w s).log after.log w.history shown.events
        ((each_cluster_is_kept plan (cluster_of plan w) reached).laws s).pool.backed
        grows
        (subst (λ k. All (λ e. is_own_commit k e ≡ true) shown.events) here shown.own)
        ((each_cluster_is_kept plan (cluster_of plan w) reached).history.own s)
        (subst (λ h. filter (is_own_commit s) h ≡ filter (is_own_commit s) (commits after.log)) shown.history
        (subst (λ l. filter (is_own_commit s) shown.cluster.history ≡ filter (is_own_commit s) (commits l))
        (ap shown.cluster.log (sym here) ∙ shown.same_log)
        ((each_cluster_is_kept plan shown.cluster shown.reached).history.own s)))

    low : s < length w.journals
    low = rw many may.here

    gained : (kept plan w s entries).history ≡ w.history ++ shown.events
    gained = ap (λ es. w.history ++ es) committed

    kept_gone : IsGone plan w (kept plan w s entries)
    kept_gone =
        ended w (kept plan w s entries) s after letters may.here here shown (kept_here plan w s entries low) (λ i apart. kept_elsewhere plan w s i entries apart)
        (λ x there. mem_left x (letters_of plan w.sent) (letters_of plan (messages_in (replies plan (node_of plan w s) entries))) there)
        gained

    done_gone : IsGone plan w (done plan w s entries)
    done_gone =
        ended w (done plan w s entries) s after letters may.here here shown (kept_here plan w s entries low) (λ i apart. kept_elsewhere plan w s i entries apart)
        (λ x there. subst (λ l. Mem x l) (map-append (letter_of plan) w.sent (messages_in (replies plan (node_of plan w s) entries))) there)
        gained

  pub happens_gone : (w : World) (event : Event) → IsReached plan (cluster_of plan w) → length w.journals ≡ count_of plan → MayHappen plan w event
      → IsGone plan w (happens plan w event)
  happens_gone w (Batch s entries Done) reached many may = done_gone w s entries Done reached many may
  happens_gone w (Batch s entries Kept) reached many may = kept_gone w s entries Kept reached many may
  happens_gone w (Batch s entries Lost) reached many may = goes_nowhere plan w reached
  happens_gone w (Restart s) reached many may = goes_nowhere plan w reached

  pub run_gone : (w : World) (events : List Event) → IsReached plan (cluster_of plan w) → length w.journals ≡ count_of plan → MayRun plan w events
      → IsGone plan w (run plan w events)
  run_gone w [] reached many may = goes_nowhere plan w reached
  run_gone w (e ∷ es) reached many may =
      let first : IsGone plan w (happens plan w e) = happens_gone w e reached many may.0 in
      let rest : IsGone plan (happens plan w e) (run plan (happens plan w e) es) =
      run_gone (happens plan w e) es first.reached (journals_stay plan w e ∙ many) may.1 in
      record {
        reached = rest.reached;
        later = later_on (cluster_of plan w) (cluster_of plan (happens plan w e)) (cluster_of plan (run plan (happens plan w e) es)) first.later rest.later;
      }

  pub simulation : (events : List Event) → MayRun plan (first_world plan) events → IsReached plan (cluster_of plan (run plan (first_world plan) events))
  simulation events may = (run_gone (first_world plan) events (first_reached plan) (first_journals plan) may).reached
