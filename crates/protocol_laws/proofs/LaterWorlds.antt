-- What holds between a world and a later one: ids stay given, and the times that a message gives are kept.
use Rattle.std.proofs.Common.{◌≡◌, ◌∙◌, ap, sym, subst, ℕ, ◌<◌, ◌≤◌, true, is_some, nat_lt, List, [], ◌∷◌, ◌++◌, length, get_or, drop, flat_map, All, Contains, arith}
use Rattle.std.proofs.Math.Seq.{drop-append_seam}
use Rattle.std.proofs.lemmas.List.Elements.{All-nil, All-cons, All-head, All-tail, All-append, All-weaker, All-contains, Contains-append_left}
use Rattle.std.proofs.lemmas.Bool.{cond-true, lt-ltb}
use Rattle.helios_model.specs.declared.ids.TxnId.{TxnId}
use Rattle.helios_model.specs.declared.ids.Version.{Version}
use Rattle.helios_model.specs.declared.ids.Version.TheVariants.{Initial, Of}
use Rattle.helios_model.specs.declared.messages.Message.{Message}
use Rattle.helios_model.specs.declared.records.Record.{Record}
use Rattle.helios_model.specs.declared.records.Record.TheVariants.{Prepare, Commit, Abort}
use Rattle.helios_model.specs.Grid.{at}
use Rattle.helios_model.specs.Transactions.{Transaction}
use Rattle.helios_model.specs.Plans.{PlanData, count_of}
use Rattle.helios_model.specs.Log.{origin, own_time, prepare_of, prepares}
use Rattle.helios_model.specs.Sequences.{Mem}
use Rattle.helios_model.specs.NamedAbort.{IsVersionIn}
use Rattle.helios_model.specs.World.{World, Event, MayRun, first_world, node_of, run}
use Rattle.protocol_laws.specs.Pool.{IsBacked}
use Rattle.protocol_laws.specs.Clusters.{Cluster, Honest, Letter}
use Rattle.protocol_laws.specs.ClusterAborts.{IsNamedAbort}
use Rattle.protocol_laws.specs.ClusterHistories.{NamesEvents}
use Rattle.protocol_laws.specs.ReachedClusters.{IsKept}
use Rattle.protocol_laws.specs.SmallSteps.{IsReached}
use Rattle.protocol_laws.specs.Views.{cluster_of, cover_in, letter_of, table_in}
use Rattle.protocol_laws.specs.Later.{EachIdStaysGiven, EachTimeIsKept, IdsStayGiven, IsAboveMessage, TimesAreKept, id_in, ids_in}
use Rattle.protocol_laws.proofs.Lists.{all_from}
use Rattle.protocol_laws.proofs.Sequences.{contains_from_mem, mem_from_contains}
use Rattle.protocol_laws.proofs.OneMore.{prepare_stands, prepares_append}
use Rattle.protocol_laws.proofs.Endings.{prepare_found}
use Rattle.protocol_laws.proofs.KnownRecords.{clock_below, cover_below, letter_home, table_below}
use Rattle.protocol_laws.proofs.ReachedClusters.{each_abort_is_named, each_cluster_is_kept, events_are_commits}
use Rattle.protocol_laws.proofs.Worlds.{first_journals, run_journals}
use Rattle.protocol_laws.proofs.Views.{within_inside}
use Rattle.protocol_laws.proofs.Later.{IsLater}
use Rattle.protocol_laws.proofs.Runs.{IsGone, run_gone, simulation}
use Rattle.protocol_laws.proofs.WorldLaws.{letter_sent, prepares_world}

all_flat : {X Y : Type 0} (P : Y → Type 0) (f : X → List Y) (xs : List X) → All (λ x. All P (f x)) xs → All P (flat_map f xs)
all_flat P f [] h = All-nil P
all_flat P f (x ∷ xs) h = All-append P (f x) (flat_map f xs) (All-head (λ y. All P (f y)) x xs h) (all_flat P f xs (All-tail (λ y. All P (f y)) x xs h))

-- what a message tells is at most the clocks of a kept cluster
module _ (plan : PlanData) (u : Cluster) (reached : IsReached plan u) where
  kept : IsKept plan u
  kept = each_cluster_is_kept plan u reached

  -- the time of an id is at most its site's clock
  abbrev IsKnown : TxnId → Type 0
  IsKnown id = id.time ≤ u.tab id.site id.site id.site

  prepared_known : (i : ℕ) (p : Transaction) → Mem (Prepare p) (u.log i) → IsKnown p.id
  prepared_known i p there = clock_below u kept.honest i (Prepare p) there

  backed_known : (i : ℕ) (id : TxnId) → is_some (prepare_of (u.log i) id) ≡ true → IsKnown id
  backed_known i id backed =
      let found = prepare_found (u.log i) id backed in
      subst IsKnown found.3 (prepared_known i found.0 (mem_from_contains (u.log i) (Prepare found.0) (prepare_stands (u.log i) found.0 found.2)))

  end_backed : (i : ℕ) (r : Record) → Mem r (u.log i) → IsBacked (u.log i) r
  end_backed i r there = All-contains (IsBacked (u.log i)) (u.log i) r (kept.laws i).pool.backed (contains_from_mem (u.log i) r there)

  version_known : (i : ℕ) (key : List ℕ) (version : Version) → IsVersionIn u.history (u.log i) key version → All IsKnown (id_in version)
  version_known i key Initial h = All-nil IsKnown
  version_known i key (Of id) h =
      All-cons IsKnown id [] (backed_known i id (end_backed i (Commit id h.event.time) (mem_from_contains (u.log i) (Commit id h.event.time) h.logged)))
      (All-nil IsKnown)

  module _ (m : Letter) (sent : Mem m u.sent) where
    at_home : (r : Record) → Mem r m.records → Mem r (u.log (origin r))
    at_home r there = (letter_home u m (kept.honest.sent m sent) r there).there

    record_known : (r : Record) → Mem r m.records → own_time r ≤ u.tab (origin r) (origin r) (origin r)
    record_known r there = clock_below u kept.honest (origin r) r (at_home r there)

    ids_known : (r : Record) → Mem r m.records → All IsKnown (ids_in r)
    ids_known (Prepare p) there =
        let names : NamesEvents u p = (events_are_commits plan u kept).sent m p sent there in
        All-cons IsKnown p.id (flat_map (λ r. id_in r.version) p.reads ++ flat_map (λ w. id_in w.over) p.writes) (record_known (Prepare p) there)
        (All-append IsKnown (flat_map (λ r. id_in r.version) p.reads) (flat_map (λ w. id_in w.over) p.writes)
        (all_flat IsKnown (λ r. id_in r.version) p.reads
        (All-weaker (λ r. IsVersionIn u.history (u.log p.id.site) r.key r.version) (λ r. All IsKnown (id_in r.version))
        (λ r. version_known p.id.site r.key r.version) p.reads names.reads))
        (all_flat IsKnown (λ w. id_in w.over) p.writes
        (All-weaker (λ w. IsVersionIn u.history (u.log p.id.site) w.key w.over) (λ w. All IsKnown (id_in w.over))
        (λ w. version_known p.id.site w.key w.over) p.writes names.writes)))
    ids_known (Commit id time) there =
        All-cons IsKnown id [] (backed_known id.site id (end_backed id.site (Commit id time) (at_home (Commit id time) there))) (All-nil IsKnown)
    ids_known (Abort id time cause) there =
        let named : IsNamedAbort u id.site id time cause = each_abort_is_named plan u reached id.site id time cause (at_home (Abort id time cause) there) in
        All-cons IsKnown id (cause ∷ []) (backed_known id.site id (end_backed id.site (Abort id time cause) (at_home (Abort id time cause) there)))
        (All-cons IsKnown cause [] (subst IsKnown named.other_id (prepared_known cause.site named.other named.other_home)) (All-nil IsKnown))

-- what is above a site's clock is above all that a message gives for the site
module _ (plan : PlanData) (w : World) (m : Message) (reached : IsReached plan (cluster_of plan w)) (there : Contains w.sent m) where
  abbrev now : Cluster
  now = cluster_of plan w

  honest_now : Honest now
  honest_now = (each_cluster_is_kept plan now reached).honest

  came : Mem (letter_of plan m) now.sent
  came = letter_sent plan w m there

  pub above_clock : (k time : ℕ) → k < count_of plan → now.tab k k k < time → IsAboveMessage plan m k time
  above_clock k time low above = record {
    table = λ a row.
        let told : at (count_of plan) m.table a k ≡ table_in (count_of plan) m.table a k =
        sym (within_inside (count_of plan) a k (at (count_of plan) m.table a k) row low) in
        let below : table_in (count_of plan) m.table a k ≤ now.tab k k k = table_below now honest_now (letter_of plan m) (honest_now.sent (letter_of plan m) came) a k in
        omega arith;
    cover =
        let told : cover_in (count_of plan) m.cover k ≡ get_or m.cover k 0 =
        cond-true (nat_lt k (count_of plan)) (get_or m.cover k 0) 0 (lt-ltb k (count_of plan) low) in
        let below : cover_in (count_of plan) m.cover k ≤ now.tab k k k = cover_below now honest_now (letter_of plan m) (honest_now.sent (letter_of plan m) came) k in
        omega arith;
    records = all_from (λ r. origin r ≡ k → own_time r < time) m.records (λ r in_it own.
        let below : own_time r ≤ now.tab k k k =
        subst (λ s. own_time r ≤ now.tab s s s) own (record_known plan now reached (letter_of plan m) came r (mem_from_contains m.records r in_it)) in
        omega arith);
    ids = all_from (λ r. All (λ id. id.site ≡ k → id.time < time) (ids_in r)) m.records (λ r in_it.
        All-weaker (λ id. id.time ≤ now.tab id.site id.site id.site) (λ id. id.site ≡ k → id.time < time)
        (λ id known own. let below : id.time ≤ now.tab k k k = subst (λ s. id.time ≤ now.tab s s s) own known in omega arith)
        (ids_in r) (ids_known plan now reached (letter_of plan m) came r (mem_from_contains m.records r in_it)));
  }

times_kept : (plan : PlanData) (w v : World) → IsReached plan (cluster_of plan w) → IsLater (cluster_of plan w) (cluster_of plan v) → TimesAreKept plan w v
times_kept plan w v reached later m there k low =
    subst (λ l. All (λ r. origin r ≡ k → IsAboveMessage plan m k (own_time r)) l) (sym gained)
    (All-weaker (λ r. origin r ≡ k → (cluster_of plan w).tab k k k < own_time r) (λ r. origin r ≡ k → IsAboveMessage plan m k (own_time r))
    (λ r above own. above_clock plan w m reached there k (own_time r) low (above own)) (later.more k) (later.above k))
  where
    gained : drop (length (node_of plan w k).log) (node_of plan v k).log ≡ later.more k
    gained = ap (drop (length (node_of plan w k).log)) (later.grown k) ∙ drop-append_seam (node_of plan w k).log (later.more k)

ids_kept : (plan : PlanData) (w v : World) → IsReached plan (cluster_of plan v) → IsLater (cluster_of plan w) (cluster_of plan v) → IdsStayGiven plan w v
ids_kept plan w v reached later i j first second p q at_p at_q same = prepares_world plan v reached i j p q still at_q same
  where
    still : Contains (prepares (node_of plan v i).log) p
    still =
        subst (λ l. Contains (prepares l) p) (sym (later.grown i))
        (subst (λ ps. Contains ps p) (sym (prepares_append (node_of plan w i).log (later.more i)))
        (Contains-append_left (prepares (node_of plan w i).log) (prepares (later.more i)) p at_p))

-- the world that further steps reach
gone_on : (plan : PlanData) (events more : List Event) → MayRun plan (first_world plan) events → MayRun plan (run plan (first_world plan) events) more
    → IsGone plan (run plan (first_world plan) events) (run plan (run plan (first_world plan) events) more)
gone_on plan events more may go_on =
    run_gone plan (run plan (first_world plan) events) more (simulation plan events may) (run_journals plan (first_world plan) events ∙ first_journals plan) go_on

pub each_time_is_kept : EachTimeIsKept
each_time_is_kept plan events more may go_on =
    times_kept plan (run plan (first_world plan) events) (run plan (run plan (first_world plan) events) more) (simulation plan events may)
    (gone_on plan events more may go_on).later

pub each_id_stays_given : EachIdStaysGiven
each_id_stays_given plan events more may go_on =
    let gone : IsGone plan (run plan (first_world plan) events) (run plan (run plan (first_world plan) events) more) = gone_on plan events more may go_on in
    ids_kept plan (run plan (first_world plan) events) (run plan (run plan (first_world plan) events) more) gone.reached gone.later
