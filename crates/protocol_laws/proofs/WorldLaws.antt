-- What small steps keep, in each world that steps reach.
use Rattle.std.proofs.Common.{◌≡◌, ◌∙◌, ap, refl, sym, subst, ℕ, ◌<◌, ◌≤◌, Bool, true, false, ◌&&◌, ◌||◌, ◌⊎◌, inl, inr, cond, nat_eq, nat_le, nat_lt, List, [], ◌∷◌, ◌++◌, get_or, All, Contains, arith}
use Rattle.std.proofs.lemmas.List.Elements.{All-contains, Contains-append_left, Contains-append_right}
use Rattle.std.proofs.lemmas.Bool.{cases_lt, cond-true, lt-ltb}
use Rattle.helios_model.specs.declared.messages.Message.{Message}
use Rattle.helios_model.specs.declared.records.Record.{Record}
use Rattle.helios_model.specs.declared.records.Record.TheVariants.{Prepare, Commit, Abort}
use Rattle.helios_model.specs.Transactions.{Transaction}
use Rattle.helios_model.specs.Plans.{PlanData, count_of}
use Rattle.helios_model.specs.Grid.{at}
use Rattle.helios_model.specs.Log.{origin, own_time, prepares}
use Rattle.helios_model.specs.Sequences.{Mem, Before, last_own, of, over, upto}
use Rattle.helios_model.specs.Exchange.{Intake, is_unfinished, take_all}
use Rattle.helios_model.specs.Node.{clock, known}
use Rattle.helios_model.specs.Messages.{intake_of}
use Rattle.helios_model.specs.World.{World, first_world, node_of, run}
use Rattle.helios_model.specs.Knowledge.{IsHonest, IsHonestMessage}
use Rattle.helios_model.specs.ConflictOrder.{IsOrdered}
use Rattle.helios_model.specs.NamedAbort.{AbortsAreCaused}
use Rattle.protocol_laws.specs.Logs.{ConflictsAreOrdered, EachConflictIsOrdered, EachEndingFollows, EachIdIsGivenOnce, EachVersionWasCurrent, EndingsFollow, FollowsBefore, VersionsWereCurrent}
use Rattle.protocol_laws.specs.Shapes.{EachBehind}
use Rattle.protocol_laws.specs.Histories.{EachHistoryIsCommits, HistoryIsSerial}
use Rattle.protocol_laws.specs.Clusters.{Cluster, HonestLetter}
use Rattle.protocol_laws.specs.ClusterAborts.{IsNamedAbort}
use Rattle.protocol_laws.specs.ReachedClusters.{ConflictsAreApart, EndsAreSound, EventsAreCommits, IsCommitOfEvent, IsKept}
use Rattle.protocol_laws.specs.ClusterHistories.{NamesEvents}
use Rattle.protocol_laws.specs.SmallSteps.{IsReached}
use Rattle.protocol_laws.specs.Views.{cluster_of, cover_in, letter_of, letters_of, table_in, table_of, within}
use Rattle.protocol_laws.specs.ManySites.{CommitsAreEvents, EachCommitIsEvent, NamesCommitted, EachWorldIsHonest, EachWorldIsOrdered, EachAbortIsCaused, EachSentEndIsTaken, SentEndsAreTaken}
use Rattle.protocol_laws.proofs.Lists.{all_from, contains_here, contains_map}
use Rattle.protocol_laws.proofs.Sequences.{contains_from_mem, mem_from_contains}
use Rattle.protocol_laws.proofs.OneMore.{prepare_stands}
use Rattle.protocol_laws.proofs.Cuts.{contains_cut}
use Rattle.protocol_laws.proofs.Placed.{node_placed}
use Rattle.protocol_laws.proofs.Views.{within_inside}
use Rattle.protocol_laws.proofs.Chains.{all_rows}
use Rattle.protocol_laws.proofs.Inputs.{outside_empty}
use Rattle.protocol_laws.proofs.KnownRecords.{letter_home}
use Rattle.protocol_laws.proofs.ReachedClusters.{each_abort_is_named, each_cluster_is_kept, each_conflict_is_apart, each_end_is_sound, each_end_is_taken, each_history_is_honest, each_id_has_one_prepare, each_version_is_current}
use Rattle.protocol_laws.proofs.SentMessages.{sent_to_sites}
use Rattle.protocol_laws.proofs.Runs.{simulation}

pub within_no_more : (count a b time : ℕ) → within count a b time ≤ time
within_no_more count a b time = by_test (nat_lt a count && nat_lt b count)
  where
    by_test : (t : Bool) → cond t time 0 ≤ time
    by_test true = omega arith
    by_test false = omega arith

pub letter_sent : (plan : PlanData) (w : World) (m : Message) → Contains w.sent m → Mem (letter_of plan m) (letters_of plan w.sent)
letter_sent plan w m there = mem_from_contains (letters_of plan w.sent) (letter_of plan m) (contains_map (letter_of plan) w.sent m there)

-- where a record stands before another one, the list is cut at the other one
cut_before : {A : Type 0} (a b : A) (xs : List A) → Before a b xs → (before : List A) × (after : List A) × (xs ≡ before ++ b ∷ after) × Contains before a
cut_before a b [] h = absurd h
cut_before a b (x ∷ xs) (inl here) =
    let cut = contains_cut xs b (contains_from_mem xs b here.1) in
    (x ∷ cut.0, cut.1, ap (λ ys. x ∷ ys) cut.2, contains_from_mem (x ∷ cut.0) a (inl here.0))
cut_before a b (x ∷ xs) (inr later) =
    let cut = cut_before a b xs later in
    (x ∷ cut.0, cut.1, ap (λ ys. x ∷ ys) cut.2, contains_from_mem (x ∷ cut.0) a (inr (mem_from_contains cut.0 a cut.3)))

-- what holds of a world whose cluster is kept
module _ (plan : PlanData) (w : World) (reached : IsReached plan (cluster_of plan w)) where
  abbrev u : Cluster
  u = cluster_of plan w

  kept : IsKept plan u
  kept = each_cluster_is_kept plan u reached

  here : (k : ℕ) → (node_of plan w k).site ≡ k
  here k = (node_placed plan w k).at_site

  entry : (i a b : ℕ) → a < count_of plan → b < count_of plan → table_of plan (node_of plan w i) a b ≡ known plan (node_of plan w i) a b
  entry i a b row column = within_inside (count_of plan) a b (known plan (node_of plan w i) a b) row column

  clock_entry : (k : ℕ) → k < count_of plan → table_of plan (node_of plan w k) k k ≡ clock plan (node_of plan w k)
  clock_entry k low = entry k k k low low ∙ ap (λ s. known plan (node_of plan w k) s s) (sym (here k))

  honest_message : (m : Message) → m.to < count_of plan → HonestLetter u (letter_of plan m) → IsHonestMessage plan w m
  honest_message m to_low h = record {
    table = λ a b row column.
        let told : at (count_of plan) m.table a b ≡ table_in (count_of plan) m.table a b =
        sym (within_inside (count_of plan) a b (at (count_of plan) m.table a b) row column) in
        let is_so : table_of plan (node_of plan w a) a b ≡ known plan (node_of plan w a) a b = entry a a b row column in
        let low : table_in (count_of plan) m.table a b ≤ table_of plan (node_of plan w a) a b = h.table a b in
        omega arith;
    cover = λ k column.
        let told : cover_in (count_of plan) m.cover k ≡ get_or m.cover k 0 = cover_told k column in
        let is_so : table_of plan (node_of plan w m.from) m.from k ≤ known plan (node_of plan w m.from) m.from k =
        within_no_more (count_of plan) m.from k (known plan (node_of plan w m.from) m.from k) in
        let low : cover_in (count_of plan) m.cover k ≤ table_of plan (node_of plan w m.from) m.from k = h.cover k in
        omega arith;
    exact = λ k column.
        subst (λ t. of k m.records ≡ over t (upto (get_or m.cover k 0) (of k (node_of plan w k).log)))
        (within_inside (count_of plan) m.to k (at (count_of plan) m.table m.to k) to_low column)
        (subst (λ t. of k m.records ≡ over (table_in (count_of plan) m.table m.to k) (upto t (of k (node_of plan w k).log))) (cover_told k column) (h.exact k));
    causal = λ x r there before. by_part x r (h.causal x r there before);
  }
    where
      cover_told : (k : ℕ) → k < count_of plan → cover_in (count_of plan) m.cover k ≡ get_or m.cover k 0
      cover_told k column = cond-true (nat_lt k (count_of plan)) (get_or m.cover k 0) 0 (lt-ltb k (count_of plan) column)

      by_part : (x r : Record) → Before x r m.records ⊎ (own_time x ≤ table_in (count_of plan) m.table m.to (origin x))
          → Before x r m.records ⊎ (own_time x ≤ at (count_of plan) m.table m.to (origin x))
      by_part x r (inl before) = inl before
      by_part x r (inr low) =
          let no_more : table_in (count_of plan) m.table m.to (origin x) ≤ at (count_of plan) m.table m.to (origin x) =
          within_no_more (count_of plan) m.to (origin x) (at (count_of plan) m.table m.to (origin x)) in
          inr (omega arith)

  pub honest_world : All (λ m. m.to < count_of plan) w.sent → IsHonest plan w
  honest_world to_sites = record {
    table = λ i j k first second third.
        let here_i : table_of plan (node_of plan w i) j k ≡ known plan (node_of plan w i) j k = entry i j k second third in
        let here_j : table_of plan (node_of plan w j) j k ≡ known plan (node_of plan w j) j k = entry j j k second third in
        let low : table_of plan (node_of plan w i) j k ≤ table_of plan (node_of plan w j) j k = kept.honest.table i j k in
        omega arith;
    rises = λ k low. kept.honest.rises k;
    last = λ k low. subst (λ t. last_own 0 (of k (node_of plan w k).log) ≤ t) (clock_entry k low) (kept.honest.last k);
    exact = λ i k first second.
        subst (λ t. of k (node_of plan w i).log ≡ upto t (of k (node_of plan w k).log)) (entry i i k first second) (kept.honest.exact i k);
    causal = λ i x r low there before. kept.honest.causal i x r there before;
    sent = all_from (IsHonestMessage plan w) w.sent
        (λ m there. honest_message m (All-contains (λ x. x.to < count_of plan) w.sent m to_sites there)
        (kept.honest.sent (letter_of plan m) (letter_sent plan w m there)));
  }

  pub ordered_world : IsOrdered plan w
  ordered_world = record {
    conflicts = λ k low. let apart : ConflictsAreApart k (node_of plan w k).log = each_conflict_is_apart plan u reached k in
        record { own_later = apart.own_later; own_earlier = apart.own_earlier };
    commits = λ i j first second other before after id time r cut own there its low.
        kept.reach.seen i before (Commit id time) after cut own j r second other there its low;
  }

  pub caused_world : AbortsAreCaused plan w
  caused_world k low id time cause there =
      let named : IsNamedAbort u k id time cause = each_abort_is_named plan u reached k id time cause (mem_from_contains (node_of plan w k).log (Abort id time cause) there) in
      let cut = cut_before (Prepare named.other) (Abort id time cause) (node_of plan w id.site).log named.other_first in
      let first = cut_before (Prepare named.aborted) (Abort id time cause) (node_of plan w id.site).log named.aborted_first in
      record {
        other_site = named.elsewhere;
        by = named.other;
        by_id = named.other_id;
        ended = named.aborted;
        ended_id = named.aborted_id;
        taken = subst (λ l. Contains l (Prepare named.aborted)) (sym first.2) (Contains-append_left first.0 (Abort id time cause ∷ first.1) (Prepare named.aborted) first.3);
        conflicts = named.conflicts;
        before = cut.0;
        after = cut.1;
        stands = cut.2;
        earlier = cut.3;
        at_home = contains_from_mem (node_of plan w cause.site).log (Prepare named.other) named.other_home;
      }

  -- the records of a message are of the plan's sites
  told_sites : (m : Message) → Contains w.sent m → All (λ r. origin r < count_of plan) m.records
  told_sites m there = all_from (λ r. origin r < count_of plan) m.records (λ r in_it. by_site r
      (letter_home u (letter_of plan m) (kept.honest.sent (letter_of plan m) (letter_sent plan w m there)) r (mem_from_contains m.records r in_it)).there
      (cases_lt (origin r) (count_of plan)))
    where
      by_site : (r : Record) → Mem r (u.log (origin r)) → (origin r < count_of plan) ⊎ (count_of plan ≤ origin r) → origin r < count_of plan
      by_site r home (inl inside) = inside
      by_site r home (inr above) = absurd (subst (λ l. Mem r l) (outside_empty plan u reached (origin r) above) home)

  pub ends_world : All (λ m. m.to < count_of plan) w.sent → SentEndsAreTaken plan w
  ends_world to_sites m there done rest r id cut ends_it unpassed =
      subst (λ (a : Intake). is_unfinished a.log id ≡ true) (sym taken_same)
      (each_end_is_taken plan u reached m.to (letter_of plan m) (letter_sent plan w m there) refl done rest r id cut ends_it
      (ap (λ t. nat_eq (origin r) m.to || nat_le (own_time r) t) (row_told r (subst (λ l. Contains l r) (sym cut) (Contains-append_right done (r ∷ rest) r (contains_here r rest))))
      ∙ unpassed))
    where
      low : m.to < count_of plan
      low = All-contains (λ x. x.to < count_of plan) w.sent m to_sites there

      row_told : (x : Record) → Contains m.records x → table_of plan (node_of plan w m.to) m.to (origin x) ≡ known plan (node_of plan w m.to) m.to (origin x)
      row_told x in_it = entry m.to m.to (origin x) low (All-contains (λ y. origin y < count_of plan) m.records x (told_sites m there) in_it)

      taken_same : take_all m.to (known plan (node_of plan w m.to) m.to) (intake_of plan (node_of plan w m.to)) done
          ≡ take_all m.to (u.tab m.to m.to) (record { log = u.log m.to; clock = u.tab m.to m.to m.to }) done
      taken_same =
          let clocks : clock plan (node_of plan w m.to) ≡ u.tab m.to m.to m.to = sym (clock_entry m.to low) in
          all_rows m.to (known plan (node_of plan w m.to) m.to) (u.tab m.to m.to) (intake_of plan (node_of plan w m.to)) done
          (all_from (λ x. known plan (node_of plan w m.to) m.to (origin x) ≡ u.tab m.to m.to (origin x)) done
          (λ x in_done. sym (row_told x (subst (λ l. Contains l x) (sym cut) (Contains-append_left done (r ∷ rest) x in_done)))))
          ∙ ap (λ t. take_all m.to (u.tab m.to m.to) (record { log = u.log m.to; clock = t }) done) clocks

  pub endings_world : (k : ℕ) → EndingsFollow plan (node_of plan w k)
  endings_world k = let ends : EndsAreSound (node_of plan w k).log = each_end_is_sound plan u reached k in record { behind = ends.behind; once = ends.once }

  pub conflicts_world : (k : ℕ) → ConflictsAreOrdered plan (node_of plan w k)
  conflicts_world k =
      let apart : ConflictsAreApart (node_of plan w k).site (node_of plan w k).log =
      subst (λ s. ConflictsAreApart s (node_of plan w k).log) (sym (here k)) (each_conflict_is_apart plan u reached k) in
      record { clear = apart.clear; own_later = apart.own_later; own_earlier = apart.own_earlier }

  pub versions_world : (k : ℕ) → VersionsWereCurrent plan (node_of plan w k)
  versions_world k = subst (λ s. EachBehind (FollowsBefore s) (node_of plan w k).log) (sym (here k)) (each_version_is_current plan u reached k)

  pub prepares_world : (i j : ℕ) (p q : Transaction) → Contains (prepares (node_of plan w i).log) p → Contains (prepares (node_of plan w j).log) q → p.id ≡ q.id → p ≡ q
  prepares_world i j p q at_p at_q same =
      each_id_has_one_prepare plan u reached i j p q
      (mem_from_contains (node_of plan w i).log (Prepare p) (prepare_stands (node_of plan w i).log p at_p))
      (mem_from_contains (node_of plan w j).log (Prepare q) (prepare_stands (node_of plan w j).log q at_q)) same

  named_committed : (p : Transaction) → NamesEvents u p → NamesCommitted plan w p
  named_committed p h = record { reads = h.reads; writes = h.writes }

  pub commits_world : CommitsAreEvents plan w
  commits_world = record {
    home = events.home;
    commits = λ k low id time there.
        let found : IsCommitOfEvent u k id time = events.commit k id time (mem_from_contains (node_of plan w k).log (Commit id time) there) in
        record { event = found.event; stands = found.stands; named = found.named; timed = found.timed; prepared = found.prepared };
    never_aborted = λ k low id time cause e there.
        events.never_aborted k id time cause e (mem_from_contains (node_of plan w k).log (Abort id time cause) there);
    named = λ k low p there. named_committed p (events.named k p (mem_from_contains (node_of plan w k).log (Prepare p) there));
    sent = λ m p there in_it.
        named_committed p (events.sent (letter_of plan m) p (letter_sent plan w m there) (mem_from_contains m.records (Prepare p) in_it));
  }
    where
      events : EventsAreCommits u
      events = (each_history_is_honest plan u reached).1

pub each_world_is_honest : EachWorldIsHonest
each_world_is_honest plan events may =
    honest_world plan (run plan (first_world plan) events) (simulation plan events may) (sent_to_sites plan events may)

pub each_world_is_ordered : EachWorldIsOrdered
each_world_is_ordered plan events may = ordered_world plan (run plan (first_world plan) events) (simulation plan events may)

pub each_abort_is_caused : EachAbortIsCaused
each_abort_is_caused plan events may = caused_world plan (run plan (first_world plan) events) (simulation plan events may)

pub each_sent_end_is_taken : EachSentEndIsTaken
each_sent_end_is_taken plan events may =
    ends_world plan (run plan (first_world plan) events) (simulation plan events may) (sent_to_sites plan events may)

pub each_ending_follows : EachEndingFollows
each_ending_follows plan events may k low = endings_world plan (run plan (first_world plan) events) (simulation plan events may) k

pub each_conflict_is_ordered : EachConflictIsOrdered
each_conflict_is_ordered plan events may k low = conflicts_world plan (run plan (first_world plan) events) (simulation plan events may) k

pub each_version_was_current : EachVersionWasCurrent
each_version_was_current plan events may k low = versions_world plan (run plan (first_world plan) events) (simulation plan events may) k

pub each_id_is_given_once : EachIdIsGivenOnce
each_id_is_given_once plan events may =
    let reached : IsReached plan (cluster_of plan (run plan (first_world plan) events)) = simulation plan events may in
    record {
      in_log = λ k low. (each_end_is_sound plan (cluster_of plan (run plan (first_world plan) events)) reached k).given_once;
      across = λ i j first second. prepares_world plan (run plan (first_world plan) events) reached i j;
    }

pub each_history_is_commits : EachHistoryIsCommits
each_history_is_commits plan events may =
    let kept : IsKept plan (cluster_of plan (run plan (first_world plan) events)) =
    each_cluster_is_kept plan (cluster_of plan (run plan (first_world plan) events)) (simulation plan events may) in
    record { own = λ k low. kept.history.own k; sites = kept.history.sites }

pub history_is_serial : HistoryIsSerial
history_is_serial plan events may accepted =
    (each_cluster_is_kept plan (cluster_of plan (run plan (first_world plan) events)) (simulation plan events may)).serial accepted

pub each_commit_is_event : EachCommitIsEvent
each_commit_is_event plan events may = commits_world plan (run plan (first_world plan) events) (simulation plan events may)
