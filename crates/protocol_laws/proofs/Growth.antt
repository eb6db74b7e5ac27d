-- What each small step adds to the log of its site and to the history.
use Rattle.std.proofs.Common.{◌≡◌, ◌≢◌, ◌∙◌, ap, refl, sym, subst, ℕ, ◌+◌, ◌<◌, ◌≤◌, max, false, ◌⊎◌, inl, inr, Option, Some, None, option_map, is_some, List, [], ◌∷◌, ◌++◌, filter, filter_map, All, Contains, arith, eq-eqb, ne_eqb}
use Rattle.std.specs.List.{cons_option}
use Rattle.std.proofs.lemmas.List.{append-nil}
use Rattle.std.proofs.lemmas.List.Elements.{All-nil, All-cons, All-weaker, All-contains}
use Rattle.std.proofs.lemmas.Bool.{cases_eq, cond-true}
use Rattle.helios_model.specs.declared.records.Record.{Record}
use Rattle.helios_model.specs.declared.records.Record.TheVariants.{Prepare, Commit, Abort}
use Rattle.helios_model.specs.declared.records.CommitEvent.{CommitEvent}
use Rattle.helios_model.specs.Ids.{same_id}
use Rattle.helios_model.specs.Transactions.{Transaction}
use Rattle.helios_model.specs.Plans.{PlanData, count_of}
use Rattle.helios_model.specs.Log.{origin, own_time, finished, prepares, prepare_of, event_at, commit_in}
use Rattle.helios_model.specs.Exchange.{Intake}
use Rattle.helios_model.specs.World.{is_own_commit}
use Rattle.protocol_laws.specs.Shapes.{Rises}
use Rattle.helios_model.specs.Sequences.{Rising, of}
use Rattle.protocol_laws.specs.Order.{IsNew}
use Rattle.protocol_laws.specs.Clusters.{Letter, Cluster, HonestLetter, Honest}
use Rattle.protocol_laws.specs.SmallSteps.{Moves, OwnMoves, Begins, Commits, taken, Takes, Sends}
use Rattle.protocol_laws.specs.LogLaws.{EndsLater, LogLaws}
use Rattle.protocol_laws.specs.Reach.{HasWaited}
use Rattle.protocol_laws.proofs.Lists.{all_from, find_passes, contains_from_filter_map}
use Rattle.protocol_laws.proofs.Ids.{same_id_is}
use Rattle.protocol_laws.proofs.Sequences.{mem_from_contains, contains_from_mem, filter_none}
use Rattle.protocol_laws.proofs.Rising.{records_order}
use Rattle.protocol_laws.proofs.KnownRecords.{row_below, letter_home, letter_rises}
use Rattle.protocol_laws.proofs.OneMore.{prepare_of_grows, unfinished_is, prepare_stands}
use Rattle.protocol_laws.proofs.PoolSteps.{found_itself}
use Rattle.protocol_laws.proofs.Cuts.{pairs_from_cuts}
use Rattle.protocol_laws.proofs.LogSteps.{laws_commit, laws_begin}
use Rattle.protocol_laws.proofs.Intakes.{IsBelow, IsTakenIn, HasTakenIn, IsAhead, IsTaking, ahead_new, takes_all}

-- an own record is above the site's clock
abbrev pub IsFresh : Cluster → ℕ → Record → Type 0
IsFresh w s r = origin r ≡ s → w.tab s s s < own_time r

-- what each small step is for the laws: one log grows by records of which the own ones are new, own Commits have waited, and
-- the history grows by the events of the own Commits
pub record Goes (plan : PlanData) (w v : Cluster) (s : ℕ) (more : List Record) (events : List CommitEvent) : Type 0 where
  pub other_log : (i : ℕ) → i ≢ s → v.log i ≡ w.log i
  pub log : v.log s ≡ w.log s ++ more
  pub row : (i j : ℕ) → w.tab i i j ≤ v.tab i i j
  pub history : v.history ≡ w.history ++ events
  pub fresh : All (IsFresh w s) more
  pub waited : All (HasWaited plan w s) more
  pub gained : filter (is_own_commit s) (filter_map (commit_in (w.log s ++ more)) more) ≡ events
  pub placed : All (λ e. e.prepare.id.site < count_of plan) events
  pub laws : LogLaws s (v.log s)

moves_row : (w v : Cluster) (s : ℕ) (more : List Record) (events : List CommitEvent) → Moves w v s more events → (i j : ℕ) → w.tab i i j ≤ v.tab i i j
moves_row w v s more events m i j = by_site (cases_eq i s)
  where
    by_site : (i ≡ s) ⊎ (i ≡ s → ⊥) → w.tab i i j ≤ v.tab i i j
    by_site (inl same) = subst (λ k. w.tab k k j ≤ v.tab k k j) (sym same) (m.tab s j)
    by_site (inr apart) = let stays : v.tab i i j ≡ w.tab i i j = m.other_tab i i j apart in omega arith

pub tick_goes : (plan : PlanData) (w v : Cluster) (s : ℕ) → LogLaws s (w.log s) → OwnMoves w v s [] [] → Goes plan w v s [] []
tick_goes plan w v s laws o = record {
  other_log = o.moves.other_log;
  log = o.moves.log;
  row = moves_row w v s [] [] o.moves;
  history = o.moves.history;
  fresh = All-nil (IsFresh w s);
  waited = All-nil (HasWaited plan w s);
  gained = refl;
  placed = All-nil (λ e. e.prepare.id.site < count_of plan);
  laws = subst (LogLaws s) (sym (o.moves.log ∙ append-nil (w.log s))) laws;
}

pub send_goes : (plan : PlanData) (w v : Cluster) (m : Letter) → LogLaws m.sender (w.log m.sender) → Sends w v m → Goes plan w v m.sender [] []
send_goes plan w v m laws o = record {
  other_log = λ i apart. o.same_log i;
  log = o.same_log m.sender ∙ sym (append-nil (w.log m.sender));
  row = λ i j. let stays : v.tab i i j ≡ w.tab i i j = o.same_tab i i j in omega arith;
  history = o.history ∙ sym (append-nil w.history);
  fresh = All-nil (IsFresh w m.sender);
  waited = All-nil (HasWaited plan w m.sender);
  gained = refl;
  placed = All-nil (λ e. e.prepare.id.site < count_of plan);
  laws = subst (LogLaws m.sender) (sym (o.same_log m.sender)) laws;
}

-- own records are not above the clock
pub own_below : (w : Cluster) → Honest w → (s : ℕ) → All (IsBelow s (w.tab s s s)) (w.log s)
own_below w h s = all_from (IsBelow s (w.tab s s s)) (w.log s) (λ r there own.
    subst (λ k. own_time r ≤ w.tab s s k) own (row_below w h s r (mem_from_contains (w.log s) r there)))

pub begin_goes : (plan : PlanData) (w v : Cluster) (s : ℕ) (p : Transaction) → Honest w → LogLaws s (w.log s) → Begins w v s p → Goes plan w v s (Prepare p ∷ []) []
begin_goes plan w v s p h laws b = record {
  other_log = b.own.moves.other_log;
  log = b.own.moves.log;
  row = moves_row w v s (Prepare p ∷ []) [] b.own.moves;
  history = b.own.moves.history;
  fresh = All-cons (IsFresh w s) (Prepare p) [] (λ own. b.above) (All-nil (IsFresh w s));
  waited = All-cons (HasWaited plan w s) (Prepare p) [] tt (All-nil (HasWaited plan w s));
  gained = refl;
  placed = All-nil (λ e. e.prepare.id.site < count_of plan);
  laws = subst (LogLaws s) (sym b.own.moves.log) (laws_begin s (w.log s) p laws new b.asked);
}
  where
    later : (r : Record) → IsBelow s (w.tab s s s) r → origin r ≡ p.id.site → own_time r < p.id.time
    later r below same =
        let low : own_time r ≤ w.tab s s s = below (same ∙ b.here) in
        let above : w.tab s s s < p.id.time = b.above in
        omega arith

    new : IsNew (w.log s) p.id
    new = ahead_new (w.log s) p (All-weaker (IsBelow s (w.tab s s s)) (λ r. origin r ≡ p.id.site → own_time r < p.id.time) later (w.log s) (own_below w h s))

-- what a commit finds in the log
pub record IsPrepared (s : ℕ) (w : Cluster) (p : Transaction) : Type 0 where
  pub stands : Contains (prepares (w.log s)) p
  pub found : prepare_of (w.log s) p.id ≡ Some p
  pub unended : finished (w.log s) p.id ≡ false
  pub below : p.id.time ≤ w.tab s s s

pub finish_prepared : (plan : PlanData) (w v : Cluster) (s : ℕ) (p : Transaction) → Honest w → LogLaws s (w.log s) → Commits plan w v s p → IsPrepared s w p
finish_prepared plan w v s p h laws c =
    let parts = unfinished_is (w.log s) p c.unfinished_here in
    record {
      stands = parts.0;
      found = found_itself (w.log s) p laws.pool.ids parts.0;
      unended = parts.1;
      below = All-contains (IsBelow s (w.tab s s s)) (w.log s) (Prepare p) (own_below w h s) (prepare_stands (w.log s) p parts.0) c.here;
    }

pub finish_goes : (plan : PlanData) (w v : Cluster) (s : ℕ) (p : Transaction) → s < count_of plan → Honest w → LogLaws s (w.log s) → Commits plan w v s p
    → Goes plan w v s (Commit p.id (w.tab s s s + 1) ∷ []) (event_at (w.tab s s s + 1) p ∷ [])
finish_goes plan w v s p low h laws c = record {
  other_log = c.own.moves.other_log;
  log = c.own.moves.log;
  row = moves_row w v s (Commit p.id (w.tab s s s + 1) ∷ []) (event_at (w.tab s s s + 1) p ∷ []) c.own.moves;
  history = c.own.moves.history;
  fresh = All-cons (IsFresh w s) (Commit p.id (w.tab s s s + 1)) [] (λ own. omega arith) (All-nil (IsFresh w s));
  waited = All-cons (HasWaited plan w s) (Commit p.id (w.tab s s s + 1)) [] (λ own. c.waited) (All-nil (HasWaited plan w s));
  gained = ap (λ o. filter (is_own_commit s) (cons_option (option_map (event_at (w.tab s s s + 1)) o) [])) here
      ∙ cond-true (is_own_commit s (event_at (w.tab s s s + 1) p)) (event_at (w.tab s s s + 1) p ∷ []) [] (eq-eqb p.id.site s c.here);
  placed = All-cons (λ e. e.prepare.id.site < count_of plan) (event_at (w.tab s s s + 1) p) [] (subst (λ k. k < count_of plan) (sym c.here) low)
      (All-nil (λ e. e.prepare.id.site < count_of plan));
  laws = subst (LogLaws s) (sym c.own.moves.log)
      (laws_commit s (w.log s) p.id (w.tab s s s + 1) p laws prepared.found prepared.unended (let below : p.id.time ≤ w.tab s s s = prepared.below in omega arith));
}
  where
    prepared : IsPrepared s w p
    prepared = finish_prepared plan w v s p h laws c

    here : prepare_of (w.log s ++ Commit p.id (w.tab s s s + 1) ∷ []) p.id ≡ Some p
    here = prepare_of_grows (w.log s) (Commit p.id (w.tab s s s + 1) ∷ []) p.id (ap (λ o. is_some o) prepared.found) ∙ prepared.found

-- own times that rise for each origin rise in the list
pub rises_of : (records : List Record) → ((k : ℕ) → Rising 0 (of k records)) → Rises records
rises_of records h = pairs_from_cuts (λ a b. origin a ≡ origin b → own_time a < own_time b) records
    (λ before x after y cut there same. records_order y x before (x ∷ after) (λ k. subst (λ rs. Rising 0 (of k rs)) cut (h k))
    (mem_from_contains before y there) (inl refl) same)

-- a commit event of a record has the record's id
event_of_record : (log : List Record) (r : Record) (e : CommitEvent) → commit_in log r ≡ Some e → origin r ≡ e.prepare.id.site
event_of_record log (Prepare p) e gives = absurd (cc)
event_of_record log (Commit id time) e gives = by_find (prepare_of log id) refl gives
  where
    by_find : (o : Option Transaction) → prepare_of log id ≡ o → option_map (event_at time) o ≡ Some e → id.site ≡ e.prepare.id.site
    by_find None look none = absurd (cc)
    by_find (Some p) look some =
        let event : event_at time p ≡ e = cc in
        let named : p.id ≡ id = same_id_is p.id id (find_passes (λ q. same_id q.id id) (prepares log) p look).1 in
        ap (λ x. x.site) (sym named) ∙ ap (λ x. x.prepare.id.site) event
event_of_record log (Abort id time cause) e gives = absurd (cc)

module _ (plan : PlanData) (w v : Cluster) (s : ℕ) (m : Letter) (h : Honest w) (laws : (k : ℕ) → LogLaws k (w.log k)) (t : Takes w v s m) where
  abbrev before_it : Intake
  before_it = record { log = w.log s; clock = w.tab s s s }

  honest_letter : HonestLetter w m
  honest_letter = h.sent m t.came

  ahead_of : (r : Record) → IsAhead s (w.tab s s) (w.log s) r
  ahead_of r foreign above = all_from (λ x. origin x ≡ origin r → own_time x < own_time r) (w.log s) (λ x there same.
      let below : own_time x ≤ w.tab s s (origin x) = row_below w h s x (mem_from_contains (w.log s) x there) in
      let known : own_time x ≤ w.tab s s (origin r) = subst (λ k. own_time x ≤ w.tab s s k) same below in
      omega arith)

  taking : IsTaking s (w.tab s s) before_it m.records
  taking = record {
    laws = laws s;
    own = own_below w h s;
    ahead = all_from (IsAhead s (w.tab s s) (w.log s)) m.records (λ r there. ahead_of r);
    rises = rises_of m.records (letter_rises w h m honest_letter);
    timed = all_from EndsLater m.records (λ r there.
        All-contains EndsLater (w.log (origin r)) r (laws (origin r)).later
        (contains_from_mem (w.log (origin r)) r (letter_home w m honest_letter r (mem_from_contains m.records r there)).there));
  }

  pub took : HasTakenIn s m.records before_it (taken w s m)
  took = takes_all s (w.tab s s) before_it m.records taking

  fresh_of : (r : Record) → IsTakenIn s (w.tab s s s) m.records r → IsFresh w s r
  fresh_of r (inl foreign) = λ own. absurd (foreign.1 own)
  fresh_of (Prepare p) (inr above) = absurd above
  fresh_of (Commit id time) (inr above) = absurd above
  fresh_of (Abort id time cause) (inr above) = λ own. above.1

  waited_of : (r : Record) → IsTakenIn s (w.tab s s s) m.records r → HasWaited plan w s r
  waited_of (Prepare p) taken_in = tt
  waited_of (Commit id time) (inl foreign) = λ own. absurd (foreign.1 own)
  waited_of (Commit id time) (inr above) = absurd above
  waited_of (Abort id time cause) taken_in = tt

  not_own : (r : Record) (e : CommitEvent) → IsTakenIn s (w.tab s s s) m.records r → commit_in (w.log s ++ took.more) r ≡ Some e → e.prepare.id.site ≡ s → ⊥
  not_own r e (inl foreign) gives own = foreign.1 (event_of_record (w.log s ++ took.more) r e gives ∙ own)
  not_own (Prepare p) e (inr above) gives own = above
  not_own (Commit id time) e (inr above) gives own = above
  not_own (Abort id time cause) e (inr above) gives own = absurd (cc)

  gains_none : filter (is_own_commit s) (filter_map (commit_in (w.log s ++ took.more)) took.more) ≡ []
  gains_none = filter_none (is_own_commit s) (filter_map (commit_in (w.log s ++ took.more)) took.more) (λ e there.
      let found = contains_from_filter_map (commit_in (w.log s ++ took.more)) took.more e
      (contains_from_mem (filter_map (commit_in (w.log s ++ took.more)) took.more) e there) in
      ne_eqb e.prepare.id.site s (not_own found.0 e (All-contains (IsTakenIn s (w.tab s s s) m.records) took.more found.0 took.new found.1) found.2))

  row_taken : (i j : ℕ) → w.tab i i j ≤ v.tab i i j
  row_taken i j = by_site (cases_eq i s)
    where
      by_column : (j ≡ s) ⊎ (j ≡ s → ⊥) → w.tab s s j ≤ v.tab s s j
      by_column (inl same) = subst (λ k. w.tab s s k ≤ v.tab s s k) (sym same)
          (let clock : v.tab s s s ≡ (taken w s m).clock = t.clock in let rises : w.tab s s s ≤ (taken w s m).clock = took.clock in omega arith)
      by_column (inr apart) = let greater : v.tab s s j ≡ max (w.tab s s j) (m.cover j) = t.row j apart in omega arith

      by_site : (i ≡ s) ⊎ (i ≡ s → ⊥) → w.tab i i j ≤ v.tab i i j
      by_site (inl same) = subst (λ k. w.tab k k j ≤ v.tab k k j) (sym same) (by_column (cases_eq j s))
      by_site (inr apart) = let stays : v.tab i i j ≡ w.tab i i j = t.other_tab i i j apart in omega arith

  pub take_goes : Goes plan w v s took.more []
  take_goes = record {
    other_log = t.other_log;
    log = t.log ∙ took.grown;
    row = row_taken;
    history = t.history ∙ sym (append-nil w.history);
    fresh = All-weaker (IsTakenIn s (w.tab s s s) m.records) (IsFresh w s) fresh_of took.more took.new;
    waited = All-weaker (IsTakenIn s (w.tab s s s) m.records) (HasWaited plan w s) waited_of took.more took.new;
    gained = gains_none;
    placed = All-nil (λ e. e.prepare.id.site < count_of plan);
    laws = subst (LogLaws s) (sym t.log) took.laws;
  }
