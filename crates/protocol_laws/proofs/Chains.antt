-- A site's node as a cluster shows it, and the small steps of a node: its clock, a transaction that is taken, a Commit, a message
-- that comes, and a message that is sent.
use Rattle.std.proofs.Common.{◌≡◌, ◌≢◌, ◌∙◌, ap, refl, sym, subst, ℕ, ◌+◌, ◌<◌, ◌≤◌, true, ◌&&◌, ◌||◌, ◌⊎◌, inl, inr, cond, nat_eq, nat_lt, nat_le, max, Option, Some, None, List, [], ◌∷◌, ◌++◌, append_assoc, get_or, find, take, drop, All, Contains, arith}
use Rattle.std.proofs.lemmas.List.{append-nil}
use Rattle.std.proofs.lemmas.List.Elements.{All-nil, All-cons, All-head, All-tail, All-append, All-contains, All-filter, All-drop, All-weaker}
use Rattle.std.proofs.lemmas.List.FromFn.{get_or-map-range_with_len}
use Rattle.std.proofs.lemmas.Bool.{and_right, cases_eq, cases_lt, cond-true, cond-false, eq-eqb, eqb-true, ne_eqb, lt-ltb, le-ltb}
use Rattle.helios_model.specs.declared.messages.Message.{Message}
use Rattle.helios_model.specs.declared.records.Record.{Record}
use Rattle.helios_model.specs.declared.records.Record.TheVariants.{Prepare, Commit}
use Rattle.helios_model.specs.declared.records.CommitEvent.{CommitEvent}
use Rattle.helios_model.specs.Transactions.{Transaction}
use Rattle.helios_model.specs.Plans.{PlanData, count_of}
use Rattle.helios_model.specs.Offset.{is_past}
use Rattle.helios_model.specs.Grid.{put}
use Rattle.helios_model.specs.Log.{event_at, origin, own_time, unfinished}
use Rattle.helios_model.specs.Sequences.{Mem}
use Rattle.helios_model.specs.Exchange.{Intake, cover_at, covered, due, is_due, left_off, merged, take_all, take_new, take_one}
use Rattle.helios_model.specs.Limits.{most_records}
use Rattle.helios_model.specs.Node.{Node, clock, known, with_clock}
use Rattle.helios_model.specs.Settle.{commit_one}
use Rattle.helios_model.specs.Request.{entered}
use Rattle.helios_model.specs.Messages.{arrived, cover_for, intake_of, message_to}
use Rattle.helios_model.specs.World.{is_own_commit}
use Rattle.protocol_laws.specs.Order.{IsAsked}
use Rattle.protocol_laws.specs.Placed.{IsPlaced}
use Rattle.protocol_laws.specs.Clusters.{Cluster, Letter}
use Rattle.protocol_laws.specs.SmallSteps.{OwnMoves, Takes, SmallStep, IsReached, taken}
use Rattle.protocol_laws.specs.SmallSteps.SmallStep.{Tick, Begin, Finish, Take, Send}
use Rattle.protocol_laws.specs.SmallSteps.IsReached.{Gone}
use Rattle.protocol_laws.specs.Views.{cover_in, letter_of, table_in, table_of}
use Rattle.protocol_laws.proofs.Lists.{find_passes}
use Rattle.protocol_laws.proofs.Sequences.{mem_cases}
use Rattle.protocol_laws.proofs.Later.{IsLater, later_on, later_same, step_later}
use Rattle.protocol_laws.proofs.ReachedClusters.{each_cluster_is_kept}
use Rattle.protocol_laws.proofs.Views.{merged_clock, merged_row, merged_rows, put_here, put_other, within_inside}

-- small steps reach a cluster in which a site is as this node and these letters are sent; all else is as it was in the first
-- cluster, but for own commit events at the end of the history
pub record IsShown (plan : PlanData) (w : Cluster) (n : Node) (letters : List Letter) : Type 0 where
  pub cluster : Cluster
  pub reached : IsReached plan cluster
  pub same_log : cluster.log n.site ≡ n.log
  pub same_tab : (a b : ℕ) → cluster.tab n.site a b ≡ table_of plan n a b
  pub other_log : (i : ℕ) → i ≢ n.site → cluster.log i ≡ w.log i
  pub other_tab : (i a b : ℕ) → i ≢ n.site → cluster.tab i a b ≡ w.tab i a b
  pub sent : cluster.sent ≡ letters
  pub events : List CommitEvent
  pub history : cluster.history ≡ w.history ++ events
  pub own : All (λ e. is_own_commit n.site e ≡ true) events
  pub later : IsLater w cluster

-- a cluster in which one site's log and times are these
abbrev moved : Cluster → ℕ → List Record → (ℕ → ℕ → ℕ) → List CommitEvent → Cluster
moved u s log tab events = record {
  log = λ i. cond (nat_eq i s) log (u.log i);
  tab = λ i. cond (nat_eq i s) tab (u.tab i);
  sent = u.sent;
  history = u.history ++ events;
}

moved_log : (u : Cluster) (s : ℕ) (log : List Record) (tab : ℕ → ℕ → ℕ) (events : List CommitEvent) → (moved u s log tab events).log s ≡ log
moved_log u s log tab events = cond-true (nat_eq s s) log (u.log s) (eq-eqb s s refl)

moved_tab : (u : Cluster) (s : ℕ) (log : List Record) (tab : ℕ → ℕ → ℕ) (events : List CommitEvent) (a b : ℕ)
    → (moved u s log tab events).tab s a b ≡ tab a b
moved_tab u s log tab events a b = ap (λ (f : ℕ → ℕ → ℕ). f a b) (cond-true (nat_eq s s) tab (u.tab s) (eq-eqb s s refl))

moved_other_log : (u : Cluster) (s : ℕ) (log : List Record) (tab : ℕ → ℕ → ℕ) (events : List CommitEvent) (i : ℕ) → i ≢ s
    → (moved u s log tab events).log i ≡ u.log i
moved_other_log u s log tab events i apart = cond-false (nat_eq i s) log (u.log i) (ne_eqb i s apart)

moved_other_tab : (u : Cluster) (s : ℕ) (log : List Record) (tab : ℕ → ℕ → ℕ) (events : List CommitEvent) (i a b : ℕ) → i ≢ s
    → (moved u s log tab events).tab i a b ≡ u.tab i a b
moved_other_tab u s log tab events i a b apart = ap (λ (f : ℕ → ℕ → ℕ). f a b) (cond-false (nat_eq i s) tab (u.tab i) (ne_eqb i s apart))

-- the node with another log and another table
abbrev node_with : Node → List Record → List ℕ → Node
node_with n log table = record { site = n.site; log = log; table = table }

-- of the node's times only its own clock moves, and not back
record IsClockMove (plan : PlanData) (n : Node) (table : List ℕ) : Type 0 where
  others : (a b : ℕ) → (a ≢ n.site) ⊎ (b ≢ n.site) → table_in (count_of plan) table a b ≡ table_of plan n a b
  risen : table_of plan n n.site n.site ≤ table_in (count_of plan) table n.site n.site

clock_move : (plan : PlanData) (n : Node) (time : ℕ) → IsPlaced plan n.site n → n.site < count_of plan → clock plan n ≤ time
    → IsClockMove plan n (put (count_of plan) n.table n.site n.site time)
clock_move plan n time h low later = record {
  others = λ a b apart. put_other (count_of plan) n.table n.site time a b low apart;
  risen =
      let before : table_of plan n n.site n.site ≡ clock plan n = within_inside (count_of plan) n.site n.site (clock plan n) low low in
      let after : table_in (count_of plan) (put (count_of plan) n.table n.site n.site time) n.site n.site ≡ time =
      put_here (count_of plan) n.table n.site time low h.sized in
      omega arith;
}

rises : (plan : PlanData) (n : Node) (table : List ℕ) → IsClockMove plan n table → (a b : ℕ) → table_of plan n a b ≤ table_in (count_of plan) table a b
rises plan n table h a b = by_site (cases_eq a n.site) (cases_eq b n.site)
  where
    as_it_was : table_in (count_of plan) table a b ≡ table_of plan n a b → table_of plan n a b ≤ table_in (count_of plan) table a b
    as_it_was same = omega arith

    by_site : (a ≡ n.site) ⊎ (a ≡ n.site → ⊥) → (b ≡ n.site) ⊎ (b ≡ n.site → ⊥) → table_of plan n a b ≤ table_in (count_of plan) table a b
    by_site (inl first) (inl second) =
        subst (λ x. table_of plan n x b ≤ table_in (count_of plan) table x b) (sym first)
        (subst (λ y. table_of plan n n.site y ≤ table_in (count_of plan) table n.site y) (sym second) h.risen)
    by_site (inl first) (inr second) = as_it_was (h.others a b (inr second))
    by_site (inr first) second = as_it_was (h.others a b (inl first))

-- what is taken depends on the row at the records' origins alone
one_row : (site : ℕ) (row other : ℕ → ℕ) (a : Intake) (r : Record) → row (origin r) ≡ other (origin r) → take_one site row a r ≡ take_one site other a r
one_row site row other a r same = ap (λ t. cond (nat_eq (origin r) site || nat_le (own_time r) t) a (take_new site a r)) same

pub all_rows : (site : ℕ) (row other : ℕ → ℕ) (a : Intake) (rs : List Record) → All (λ r. row (origin r) ≡ other (origin r)) rs
    → take_all site row a rs ≡ take_all site other a rs
all_rows site row other a [] h = refl
all_rows site row other a (r ∷ rs) h =
    ap (λ b. take_all site row b rs) (one_row site row other a r (All-head (λ x. row (origin x) ≡ other (origin x)) r rs h))
    ∙ all_rows site row other (take_one site other a r) rs (All-tail (λ x. row (origin x) ≡ other (origin x)) r rs h)

-- and so does what is due
due_rows : (row other : ℕ → ℕ) (log : List Record) → All (λ r. row (origin r) ≡ other (origin r)) log → due row log ≡ due other log
due_rows row other [] h = refl
due_rows row other (r ∷ rs) h =
    joined (ap (λ t. nat_lt t (own_time r)) (All-head (λ x. row (origin x) ≡ other (origin x)) r rs h))
    (due_rows row other rs (All-tail (λ x. row (origin x) ≡ other (origin x)) r rs h))
  where
    joined : is_due row r ≡ is_due other r → due row rs ≡ due other rs → due row (r ∷ rs) ≡ due other (r ∷ rs)
    joined same more = λ i. cond (same i) (r ∷ more i) (more i)

-- nothing is found of a site that is not the plan's
none_outside : (count k : ℕ) (rs : List Record) → All (λ r. origin r < count) rs → count ≤ k → find (λ r. nat_eq (origin r) k) rs ≡ None
none_outside count k rs sites above = by_find (find (λ r. nat_eq (origin r) k) rs) refl
  where
    by_find : (o : Option Record) → find (λ r. nat_eq (origin r) k) rs ≡ o → find (λ r. nat_eq (origin r) k) rs ≡ None
    by_find None look = look
    by_find (Some r) look =
        let found = find_passes (λ x. nat_eq (origin x) k) rs r look in
        let inside : origin r < count = All-contains (λ x. origin x < count) rs r sites found.0 in
        let same : origin r ≡ k = eqb-true (origin r) k found.1 in
        absurd (omega arith)

module _ (plan : PlanData) (w : Cluster) (n : Node) (letters : List Letter) (placed : IsPlaced plan n.site n) (low : n.site < count_of plan)
    (shown : IsShown plan w n letters) where
  abbrev u : Cluster
  u = shown.cluster

  abbrev next : List Record → List ℕ → List CommitEvent → Cluster
  next log table events = moved u n.site log (table_in (count_of plan) table) events

  own_moves : (log more : List Record) (table : List ℕ) (events : List CommitEvent) → log ≡ n.log ++ more → IsClockMove plan n table
      → OwnMoves u (next log table events) n.site more events
  own_moves log more table events grown h = record {
    moves = record {
      other_log = λ i apart. moved_other_log u n.site log (table_in (count_of plan) table) events i apart;
      other_tab = λ i a b apart. moved_other_tab u n.site log (table_in (count_of plan) table) events i a b apart;
      log = moved_log u n.site log (table_in (count_of plan) table) events ∙ grown ∙ ap (λ l. l ++ more) (sym shown.same_log);
      tab = λ a b.
          let before : u.tab n.site a b ≡ table_of plan n a b = shown.same_tab a b in
          let after : (next log table events).tab n.site a b ≡ table_in (count_of plan) table a b =
          moved_tab u n.site log (table_in (count_of plan) table) events a b in
          let risen : table_of plan n a b ≤ table_in (count_of plan) table a b = rises plan n table h a b in
          omega arith;
      history = refl;
    };
    others = λ a b apart. moved_tab u n.site log (table_in (count_of plan) table) events a b ∙ h.others a b apart ∙ sym (shown.same_tab a b);
    sent = λ m there. there;
  }

  shown_next : (log : List Record) (table : List ℕ) (events : List CommitEvent) → All (λ e. is_own_commit n.site e ≡ true) events
      → SmallStep plan u (next log table events) → IsShown plan w (node_with n log table) letters
  shown_next log table events own step = record {
    cluster = next log table events;
    reached = Gone shown.reached step;
    same_log = moved_log u n.site log (table_in (count_of plan) table) events;
    same_tab = λ a b. moved_tab u n.site log (table_in (count_of plan) table) events a b;
    other_log = λ i apart. moved_other_log u n.site log (table_in (count_of plan) table) events i apart ∙ shown.other_log i apart;
    other_tab = λ i a b apart. moved_other_tab u n.site log (table_in (count_of plan) table) events i a b apart ∙ shown.other_tab i a b apart;
    sent = shown.sent;
    events = shown.events ++ events;
    history = ap (λ l. l ++ events) shown.history ∙ append_assoc w.history shown.events events;
    own = All-append (λ e. is_own_commit n.site e ≡ true) shown.events events shown.own own;
    later = later_on w u (next log table events) shown.later (step_later plan u (next log table events) (each_cluster_is_kept plan u shown.reached) step);
  }

  own_clock : u.tab n.site n.site n.site ≡ clock plan n
  own_clock = shown.same_tab n.site n.site ∙ within_inside (count_of plan) n.site n.site (clock plan n) low low

  -- the site's clock comes to a later time
  pub shown_clock : (time : ℕ) → clock plan n ≤ time → IsShown plan w (with_clock plan n time) letters
  shown_clock time later =
      shown_next n.log (put (count_of plan) n.table n.site n.site time) [] (All-nil (λ e. is_own_commit n.site e ≡ true))
      (Tick n.site low (own_moves n.log [] (put (count_of plan) n.table n.site n.site time) [] (sym (append-nil n.log)) (clock_move plan n time placed low later)))

  new_clock : (log : List Record) (time : ℕ) (events : List CommitEvent)
      → (next log (put (count_of plan) n.table n.site n.site time) events).tab n.site n.site n.site ≡ time
  new_clock log time events =
      moved_tab u n.site log (table_in (count_of plan) (put (count_of plan) n.table n.site n.site time)) events n.site n.site
      ∙ put_here (count_of plan) n.table n.site time low placed.sized

  -- the site takes a transaction
  pub shown_entered : (p : Transaction) → p.id.site ≡ n.site → clock plan n < p.id.time → IsAsked n.log p → IsShown plan w (entered plan n p) letters
  shown_entered p own above asked =
      shown_next (n.log ++ Prepare p ∷ []) (put (count_of plan) n.table n.site n.site p.id.time) [] (All-nil (λ e. is_own_commit n.site e ≡ true))
      (Begin n.site low p (record {
        own = own_moves (n.log ++ Prepare p ∷ []) (Prepare p ∷ []) (put (count_of plan) n.table n.site n.site p.id.time) [] refl
            (clock_move plan n p.id.time placed low (omega arith));
        here = own;
        above = subst (λ t. t < p.id.time) (sym own_clock) above;
        clock = new_clock (n.log ++ Prepare p ∷ []) p.id.time [];
        asked = subst (λ l. IsAsked l p) (sym shown.same_log) asked;
      }))

  -- the site commits an own transaction
  pub shown_commit : (p : Transaction) → p.id.site ≡ n.site → Contains (unfinished n.log) p
      → ((j : ℕ) → j < count_of plan → j ≢ n.site → is_past plan n.site j p.id.time (known plan n n.site j) ≡ true)
      → IsShown plan w (commit_one plan n p.id) letters
  shown_commit p own open_here waited =
      shown_next (n.log ++ Commit p.id (clock plan n + 1) ∷ []) (put (count_of plan) n.table n.site n.site (clock plan n + 1))
      (event_at (clock plan n + 1) p ∷ [])
      (All-cons (λ e. is_own_commit n.site e ≡ true) (event_at (clock plan n + 1) p) [] (eq-eqb p.id.site n.site own)
      (All-nil (λ e. is_own_commit n.site e ≡ true)))
      (Finish n.site low p (record {
        own = subst
            (λ t. OwnMoves u (next (n.log ++ Commit p.id (clock plan n + 1) ∷ []) (put (count_of plan) n.table n.site n.site (clock plan n + 1))
            (event_at (clock plan n + 1) p ∷ [])) n.site (Commit p.id (t + 1) ∷ []) (event_at (t + 1) p ∷ []))
            (sym own_clock)
            (own_moves (n.log ++ Commit p.id (clock plan n + 1) ∷ []) (Commit p.id (clock plan n + 1) ∷ [])
            (put (count_of plan) n.table n.site n.site (clock plan n + 1)) (event_at (clock plan n + 1) p ∷ []) refl
            (clock_move plan n (clock plan n + 1) placed low (omega arith)));
        here = own;
        unfinished_here = subst (λ l. Contains (unfinished l) p) (sym shown.same_log) open_here;
        waited = λ j below apart.
            subst (λ t. is_past plan n.site j p.id.time t ≡ true)
            (sym (shown.same_tab n.site j ∙ within_inside (count_of plan) n.site j (known plan n n.site j) low below)) (waited j below apart);
        clock = new_clock (n.log ++ Commit p.id (clock plan n + 1) ∷ []) (clock plan n + 1) (event_at (clock plan n + 1) p ∷ [])
            ∙ ap (λ t. t + 1) (sym own_clock);
      }))

  heard : (a : ℕ) → a < count_of plan → (records : List Record) → All (λ r. origin r < count_of plan) records
      → All (λ r. known plan n a (origin r) ≡ u.tab n.site a (origin r)) records
  heard a row records sites =
      All-weaker (λ r. origin r < count_of plan) (λ r. known plan n a (origin r) ≡ u.tab n.site a (origin r))
      (λ r inside. sym (shown.same_tab a (origin r) ∙ within_inside (count_of plan) a (origin r) (known plan n a (origin r)) row inside)) records sites

  -- the site's log and clock as it has taken a message's records
  abbrev got : Message → Intake
  got m = take_all n.site (known plan n n.site) (intake_of plan n) m.records

  same_intake : (m : Message) → All (λ r. origin r < count_of plan) m.records → got m ≡ taken u n.site (letter_of plan m)
  same_intake m sites =
      let logs : n.log ≡ u.log n.site = sym shown.same_log in
      let clocks : clock plan n ≡ u.tab n.site n.site n.site = sym own_clock in
      all_rows n.site (known plan n n.site) (u.tab n.site n.site) (intake_of plan n) m.records (heard n.site low m.records sites)
      ∙ ap (λ (a : Intake). take_all n.site (u.tab n.site n.site) a m.records) (λ i. record { log = logs i; clock = clocks i })

  abbrev table_got : Message → List ℕ
  table_got m = merged (count_of plan) n.site (put (count_of plan) n.table n.site n.site (got m).clock) m.table m.cover

  -- the site takes a message
  pub shown_arrived : (m : Message) → m.to ≡ n.site → Mem (letter_of plan m) letters → All (λ r. origin r < count_of plan) m.records
      → IsShown plan w (arrived plan n m) letters
  shown_arrived m here came sites = shown_next (got m).log (table_got m) [] (All-nil (λ e. is_own_commit n.site e ≡ true)) (Take n.site low (letter_of plan m) takes)
    where
      takes : Takes u (next (got m).log (table_got m) []) n.site (letter_of plan m)
      takes = record {
        came = subst (λ l. Mem (letter_of plan m) l) (sym shown.sent) came;
        here = here;
        other_log = λ i apart. moved_other_log u n.site (got m).log (table_in (count_of plan) (table_got m)) [] i apart;
        other_tab = λ i a b apart. moved_other_tab u n.site (got m).log (table_in (count_of plan) (table_got m)) [] i a b apart;
        log = moved_log u n.site (got m).log (table_in (count_of plan) (table_got m)) [] ∙ ap (λ a. a.log) (same_intake m sites);
        clock = moved_tab u n.site (got m).log (table_in (count_of plan) (table_got m)) [] n.site n.site
            ∙ merged_clock (count_of plan) n.site (put (count_of plan) n.table n.site n.site (got m).clock) m.table m.cover
            ∙ put_here (count_of plan) n.table n.site (got m).clock low placed.sized
            ∙ ap (λ a. a.clock) (same_intake m sites);
        row = λ k apart. moved_tab u n.site (got m).log (table_in (count_of plan) (table_got m)) [] n.site k
            ∙ merged_row (count_of plan) n.site (put (count_of plan) n.table n.site n.site (got m).clock) m.table m.cover k low apart
            ∙ ap (λ t. max t (cover_in (count_of plan) m.cover k))
            (put_other (count_of plan) n.table n.site (got m).clock n.site k low (inr apart) ∙ sym (shown.same_tab n.site k));
        rows = λ a k apart. moved_tab u n.site (got m).log (table_in (count_of plan) (table_got m)) [] a k
            ∙ merged_rows (count_of plan) n.site (put (count_of plan) n.table n.site n.site (got m).clock) m.table m.cover a k apart
            ∙ ap (λ t. max t (table_in (count_of plan) m.table a k))
            (put_other (count_of plan) n.table n.site (got m).clock a k low (inl apart) ∙ sym (shown.same_tab a k));
        sent = λ x there. there;
        history = append-nil u.history;
      }

  same_due : (to : ℕ) → to < count_of plan → All (λ r. origin r < count_of plan) n.log
      → due (known plan n to) n.log ≡ due (u.tab n.site to) (u.log n.site)
  same_due to row sites = due_rows (known plan n to) (u.tab n.site to) n.log (heard to row n.log sites) ∙ ap (due (u.tab n.site to)) (sym shown.same_log)

  left_sites : (to : ℕ) → All (λ r. origin r < count_of plan) n.log → All (λ r. origin r < count_of plan) (left_off (known plan n to) n.log)
  left_sites to sites =
      All-drop (λ r. origin r < count_of plan) most_records (due (known plan n to) n.log)
      (All-filter (is_due (known plan n to)) (λ r. origin r < count_of plan) n.log sites)

  abbrev left : ℕ → List Record
  left to = left_off (known plan n to) n.log

  same_cover : (to : ℕ) → to < count_of plan → All (λ r. origin r < count_of plan) n.log → (k : ℕ)
      → cover_in (count_of plan) (cover_for plan n to) k ≡ cover_at (u.tab n.site n.site) (left_off (u.tab n.site to) (u.log n.site)) k
  same_cover to row sites k = by_site (cases_lt k (count_of plan)) ∙ ap (λ due_now. cover_at (u.tab n.site n.site) (drop most_records due_now) k) (same_due to row sites)
    where
      by_site : (k < count_of plan) ⊎ (count_of plan ≤ k) → cover_in (count_of plan) (cover_for plan n to) k ≡ cover_at (u.tab n.site n.site) (left to) k
      by_site (inl below) =
          cond-true (nat_lt k (count_of plan)) (get_or (cover_for plan n to) k 0) 0 (lt-ltb k (count_of plan) below)
          ∙ get_or-map-range_with_len (cover_at (known plan n n.site) (left to)) 0 (count_of plan) k k 0 below (omega arith)
          ∙ ap (λ t. covered t (find (λ r. nat_eq (origin r) k) (left to)))
          (sym (shown.same_tab n.site k ∙ within_inside (count_of plan) n.site k (known plan n n.site k) low below))
      by_site (inr above) =
          let nothing : u.tab n.site n.site k ≡ 0 =
          shown.same_tab n.site k ∙ cond-false (nat_lt n.site (count_of plan) && nat_lt k (count_of plan)) (known plan n n.site k) 0
          (and_right (nat_lt n.site (count_of plan)) (nat_lt k (count_of plan)) (le-ltb k (count_of plan) above)) in
          let none : find (λ r. nat_eq (origin r) k) (left to) ≡ None = none_outside (count_of plan) k (left to) (left_sites to sites) above in
          cond-false (nat_lt k (count_of plan)) (get_or (cover_for plan n to) k 0) 0 (le-ltb k (count_of plan) above)
          ∙ sym (ap (covered (u.tab n.site n.site k)) none ∙ nothing)

  abbrev letter : ℕ → Letter
  letter to = letter_of plan (message_to plan n to)

  abbrev with_letter : ℕ → Cluster
  with_letter to = record { log = u.log; tab = u.tab; sent = letters ++ letter to ∷ []; history = u.history }

  -- the site sends a message to another one
  pub shown_sent : (to : ℕ) → to < count_of plan → All (λ r. origin r < count_of plan) n.log
      → IsShown plan w n (letters ++ letter_of plan (message_to plan n to) ∷ [])
  shown_sent to row sites = record {
    cluster = with_letter to;
    reached = Gone shown.reached (Send (letter to) low (record {
      letter = record {
        table = λ a b. sym (shown.same_tab a b);
        records = ap (take most_records) (same_due to row sites);
        cover = same_cover to row sites;
      };
      same_log = λ i. refl;
      same_tab = λ i a b. refl;
      sent = λ x there. by_part x (mem_cases x letters (letter to ∷ []) there);
      history = refl;
    }));
    same_log = shown.same_log;
    same_tab = shown.same_tab;
    other_log = shown.other_log;
    other_tab = shown.other_tab;
    sent = refl;
    events = shown.events;
    history = shown.history;
    own = shown.own;
    later = later_same w u (with_letter to) shown.later (λ i. refl) (λ i. refl);
  }
    where
      by_part : (x : Letter) → Mem x letters ⊎ Mem x (letter to ∷ []) → Mem x u.sent ⊎ (x ≡ letter to)
      by_part x (inl before) = inl (subst (λ l. Mem x l) (sym shown.sent) before)
      by_part x (inr (inl same)) = inr (sym same)
      by_part x (inr (inr nothing)) = absurd nothing
