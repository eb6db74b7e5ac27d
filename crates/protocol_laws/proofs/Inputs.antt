-- Each input of a site is a chain of small steps: a request that is taken, what commits behind it, a message that is sent, and
-- one that comes.
use Rattle.std.proofs.Common.{◌≡◌, ◌≢◌, ◌∙◌, ap, refl, sym, subst, ℕ, ◌+◌, ◌*◌, ◌<◌, ◌≤◌, Bool, true, false, not, ◌&&◌, ◌||◌, ◌⊎◌, inl, inr, if◌then◌else◌, nat_eq, nat_le, max, Option, Some, None, option_map, List, [], ◌∷◌, ◌++◌, append_assoc, length, get_or, filter, fold, map, All, AllPairs, Contains, MatchOption, arith, eqb-true}
use Rattle.std.specs.List.{cons_option, range_with_len}
use Rattle.std.specs.Option.{option_or}
use Rattle.std.proofs.lemmas.List.{append-nil, get_or-set_other}
use Rattle.std.proofs.lemmas.List.Elements.{All-head, All-tail, All-weaker}
use Rattle.std.proofs.lemmas.List.FromFn.{get_or-range_with_len, length-range_with_len}
use Rattle.std.proofs.lemmas.List.Folds.{list_all_at}
use Rattle.std.proofs.lemmas.List.Kept.{AllPairs-filter}
use Rattle.std.proofs.lemmas.Bool.{both_ways, cases_lt, cond_both, not_from_false, or_cases, true_from_ne_false}
use Rattle.helios_model.specs.declared.ids.TxnId.{TxnId}
use Rattle.helios_model.specs.declared.entries.Entry.{Entry}
use Rattle.helios_model.specs.declared.entries.Input.{Input}
use Rattle.helios_model.specs.declared.entries.Input.TheVariants.{Get, Status, Request, Pull, Push}
use Rattle.helios_model.specs.declared.entries.Reply.{Reply}
use Rattle.helios_model.specs.declared.entries.Reply.TheVariants.{Prepared, Committed, Overwritten, Conflict, PoolFull}
use Rattle.helios_model.specs.declared.messages.Message.{Message}
use Rattle.helios_model.specs.declared.records.Record.{Record}
use Rattle.helios_model.specs.declared.records.Record.TheVariants.{Prepare, Commit, Abort}
use Rattle.helios_model.specs.Ids.{same_id}
use Rattle.helios_model.specs.Transactions.{Transaction, Asking}
use Rattle.helios_model.specs.Plans.{PlanData, count_of}
use Rattle.helios_model.specs.Offset.{is_past}
use Rattle.helios_model.specs.Limits.{most_open}
use Rattle.helios_model.specs.Log.{current, ends, finished, is_own, origin, prepares, unfinished}
use Rattle.helios_model.specs.Sequences.{Mem}
use Rattle.helios_model.specs.Node.{Node, clamp, clock, is_spent, known, own_open}
use Rattle.helios_model.specs.Settle.{commit_one, is_reached, settle}
use Rattle.helios_model.specs.Request.{asked, clash, clash_refusal, entered, next_id, refusal, request, room_refusal, stale_read, stale_refusal, taken_reply, unless_refused}
use Rattle.helios_model.specs.Messages.{advanced, arrived}
use Rattle.helios_model.specs.Spellable.{IsMessageOf, IsSpellableRecord}
use Rattle.helios_model.specs.Step.{MayBeAsked, after_entries, after_entry, by_clock, is_journaled, step}
use Rattle.helios_model.specs.World.{message_in, messages_in, replies}
use Rattle.protocol_laws.specs.Placed.{IsPlaced}
use Rattle.protocol_laws.specs.Clusters.{Cluster, Honest, Letter}
use Rattle.protocol_laws.specs.SmallSteps.{SmallStep, IsReached}
use Rattle.protocol_laws.specs.SmallSteps.SmallStep.{Tick, Begin, Finish, Take, Send}
use Rattle.protocol_laws.specs.SmallSteps.IsReached.{Begun, Gone}
use Rattle.protocol_laws.specs.Views.{letter_of, letters_of}
use Rattle.protocol_laws.proofs.Lists.{all_from, contains_filter, contains_from_filter, pairs_head, pairs_tail}
use Rattle.protocol_laws.proofs.OneMore.{unfinished_end}
use Rattle.protocol_laws.proofs.Sequences.{mem_from_contains, mem_left}
use Rattle.protocol_laws.proofs.KnownRecords.{home}
use Rattle.protocol_laws.proofs.ReachedClusters.{each_cluster_is_honest, each_cluster_is_kept}
use Rattle.protocol_laws.proofs.Placed.{placed_advanced, placed_arrived, placed_commits, placed_entered, placed_entry}
use Rattle.protocol_laws.proofs.Asks.{free_asked, unrefused_free}
use Rattle.protocol_laws.proofs.NodeRules.{next_above}
use Rattle.protocol_laws.proofs.Chains.{IsShown, shown_arrived, shown_clock, shown_commit, shown_entered, shown_sent}

-- no step is of a number that is no site, so its log stays empty
step_outside : (plan : PlanData) (w v : Cluster) (k : ℕ) → count_of plan ≤ k → SmallStep plan w v → v.log k ≡ w.log k
step_outside plan w v k above (Tick s low own) = own.moves.other_log k (λ same. absurd (omega arith))
step_outside plan w v k above (Begin s low p begins) = begins.own.moves.other_log k (λ same. absurd (omega arith))
step_outside plan w v k above (Finish s low p commits) = commits.own.moves.other_log k (λ same. absurd (omega arith))
step_outside plan w v k above (Take s low m takes) = takes.other_log k (λ same. absurd (omega arith))
step_outside plan w v k above (Send m low sends) = sends.same_log k

pub outside_empty : (plan : PlanData) (u : Cluster) → IsReached plan u → (k : ℕ) → count_of plan ≤ k → u.log k ≡ []
outside_empty plan u (Begun first) k above = first.log k
outside_empty plan u (Gone {w = w} before goes) k above = step_outside plan w u k above goes ∙ outside_empty plan w before k above

-- each record of a log is of one of the plan's sites
pub sites_only : (plan : PlanData) (u : Cluster) → IsReached plan u → Honest u → (i : ℕ) → All (λ r. origin r < count_of plan) (u.log i)
sites_only plan u reached honest i =
    all_from (λ r. origin r < count_of plan) (u.log i) (λ r there. by_site r (home u honest i r (mem_from_contains (u.log i) r there)).there
    (cases_lt (origin r) (count_of plan)))
  where
    by_site : (r : Record) → Mem r (u.log (origin r)) → (origin r < count_of plan) ⊎ (count_of plan ≤ origin r) → origin r < count_of plan
    by_site r there (inl inside) = inside
    by_site r there (inr above) = absurd (subst (λ l. Mem r l) (outside_empty plan u reached (origin r) above) there)

spelled_site : (count : ℕ) (r : Record) → IsSpellableRecord count r → origin r < count
spelled_site count (Prepare p) h = h.named.here
spelled_site count (Commit id time) h = h.named.here
spelled_site count (Abort id time cause) h = h.0.named.here

message_sites : (count : ℕ) (m : Message) → IsMessageOf count m → All (λ r. origin r < count) m.records
message_sites count m h =
    subst (λ c. All (λ r. origin r < c) m.records) h.counted
    (All-weaker (IsSpellableRecord m.count) (λ r. origin r < m.count) (spelled_site m.count) m.records h.spellable.records)

-- an own transaction that is unfinished and has waited
record IsReady (plan : PlanData) (n : Node) (p : Transaction) : Type 0 where
  own : p.id.site ≡ n.site
  open_here : Contains (unfinished n.log) p
  waited : (j : ℕ) → j < count_of plan → j ≢ n.site → is_past plan n.site j p.id.time (known plan n n.site j) ≡ true

-- the Commit of another one leaves it so
ready_still : (plan : PlanData) (n : Node) (p q : Transaction) → same_id p.id q.id ≡ false → IsReady plan n q → IsReady plan (commit_one plan n p.id) q
ready_still plan n p q apart h = record {
  own = h.own;
  open_here = subst (λ ps. Contains ps q) (sym (unfinished_end n.log (Commit p.id (clock plan n + 1)) refl))
      (contains_filter (λ x. not (ends x.id (Commit p.id (clock plan n + 1)))) (unfinished n.log) q h.open_here (not_from_false (same_id p.id q.id) apart));
  waited = λ j low other. subst (λ t. is_past plan n.site j q.id.time t ≡ true)
      (sym (get_or-set_other n.table (n.site * count_of plan + n.site) (n.site * count_of plan + j) (clock plan n + 1) 0 (λ same. other (omega arith))))
      (h.waited j low other);
}

pub reached_waited : (plan : PlanData) (n : Node) (time : ℕ) → is_reached plan n time ≡ true → (j : ℕ) → j < count_of plan → j ≢ n.site
    → is_past plan n.site j time (known plan n n.site j) ≡ true
reached_waited plan n time reached j low apart =
    let here : get_or (range_with_len 0 (count_of plan)) j 0 ≡ j = get_or-range_with_len 0 (count_of plan) j 0 low ∙ omega arith in
    let inside : j < length (range_with_len 0 (count_of plan)) = rw (length-range_with_len 0 (count_of plan)) low in
    let passes : (nat_eq j n.site || is_past plan n.site j time (known plan n n.site j)) ≡ true =
    true_from_ne_false (nat_eq j n.site || is_past plan n.site j time (known plan n n.site j)) (λ fails.
    both_ways (is_reached plan n time)
    (list_all_at (λ i. nat_eq i n.site || is_past plan n.site i time (known plan n n.site i)) (range_with_len 0 (count_of plan)) j 0 inside
    (ap (λ i. nat_eq i n.site || is_past plan n.site i time (known plan n n.site i)) here ∙ fails)) reached) in
    by_side (or_cases (nat_eq j n.site) (is_past plan n.site j time (known plan n n.site j)) passes)
  where
    by_side : (nat_eq j n.site ≡ true) ⊎ (is_past plan n.site j time (known plan n n.site j) ≡ true) → is_past plan n.site j time (known plan n n.site j) ≡ true
    by_side (inl same) = absurd (apart (eqb-true j n.site same))
    by_side (inr past) = past

-- the ready ones, in log order
abbrev pub ready_ones : PlanData → Node → List Transaction
ready_ones plan n = filter (λ p. is_reached plan n p.id.time) (own_open n)

are_ready : (plan : PlanData) (n : Node) → All (IsReady plan n) (ready_ones plan n)
are_ready plan n = all_from (IsReady plan n) (ready_ones plan n) each
  where
    each : (p : Transaction) → Contains (ready_ones plan n) p → IsReady plan n p
    each p there =
        let outer = contains_from_filter (λ q. is_reached plan n q.id.time) (own_open n) p there in
        let inner = contains_from_filter (is_own n.site) (unfinished n.log) p outer.0 in
        record { own = eqb-true p.id.site n.site inner.1; open_here = inner.0; waited = reached_waited plan n p.id.time outer.1 }

-- no refusal sends a message
abbrev IsSilent : Option Reply → Type 0
IsSilent o = MatchOption o (Unit {0}) (λ reply. message_in reply ≡ None)

silent_mapped : {X : Type 0} (f : X → Reply) → ((x : X) → message_in (f x) ≡ None) → (o : Option X) → IsSilent (option_map f o)
silent_mapped f each None = tt
silent_mapped f each (Some x) = each x

silent_either : (o other : Option Reply) → IsSilent o → IsSilent other → IsSilent (option_or o other)
silent_either None other first second = second
silent_either (Some reply) other first second = first

pub refusal_silent : (n : Node) (ask : Asking) → IsSilent (refusal n ask)
refusal_silent n ask =
    silent_either (room_refusal n) (option_or (stale_refusal n.log ask) (clash_refusal n.log ask)) (by_room (nat_le most_open (length (own_open n))))
    (silent_either (stale_refusal n.log ask) (clash_refusal n.log ask)
    (silent_mapped (λ r. Overwritten r.key (current n.log r.key)) (λ r. refl) (stale_read n.log ask.reads))
    (silent_mapped (λ q. Conflict q.id) (λ q. refl) (clash n.log ask)))
  where
    by_room : (full : Bool) → IsSilent (if full then Some PoolFull else None)
    by_room true = refl
    by_room false = tt

taken_silent : (log : List Record) (id : TxnId) → message_in (taken_reply log id) ≡ None
taken_silent log id = cond_both (finished log id) (Committed id) (Prepared id) (λ reply. message_in reply ≡ None) (λ ended. refl) (λ pending. refl)

pub request_silent : (plan : PlanData) (n : Node) (p : Transaction) (o : Option Reply) → IsSilent o → message_in (unless_refused plan n p o).reply ≡ None
request_silent plan n p (Some reply) silent = silent
request_silent plan n p None silent = taken_silent (settle plan (entered plan n p)).log p.id

-- the letters of a reply's message
abbrev letters_in : PlanData → Reply → List Letter
letters_in plan reply = letters_of plan (cons_option (message_in reply) [])

-- a message that is taken in was sent
abbrev pub HasCome : PlanData → List Letter → Input → Type 0
HasCome plan letters (Get key) = Unit {0}
HasCome plan letters (Status id) = Unit {0}
HasCome plan letters (Request ask) = Unit {0}
HasCome plan letters (Pull to) = Unit {0}
HasCome plan letters (Push m) = Mem (letter_of plan m) letters

still_come : (plan : PlanData) (letters more : List Letter) (input : Input) → HasCome plan letters input → HasCome plan (letters ++ more) input
still_come plan letters more (Get key) h = tt
still_come plan letters more (Status id) h = tt
still_come plan letters more (Request ask) h = tt
still_come plan letters more (Pull to) h = tt
still_come plan letters more (Push m) h = mem_left (letter_of plan m) letters more h

module _ (plan : PlanData) (w : Cluster) where
  commits_shown : (n : Node) (ps : List Transaction) (letters : List Letter) → IsPlaced plan n.site n → n.site < count_of plan
      → AllPairs (λ a b. same_id a.id b.id ≡ false) ps → All (IsReady plan n) ps → IsShown plan w n letters
      → IsShown plan w (fold (commit_one plan) n (map (λ p. p.id) ps)) letters
  commits_shown n [] letters placed low apart ready shown = shown
  commits_shown n (p ∷ ps) letters placed low apart ready shown =
      let first : IsReady plan n p = All-head (IsReady plan n) p ps ready in
      commits_shown (commit_one plan n p.id) ps letters (placed_commits plan n.site n (p.id ∷ []) placed) low
      (pairs_tail (λ a b. same_id a.id b.id ≡ false) p ps apart)
      (λ k d less. ready_still plan n p (get_or ps k d) (pairs_head (λ a b. same_id a.id b.id ≡ false) p ps apart k d less)
      (All-tail (IsReady plan n) p ps ready k d less))
      (shown_commit plan w n letters placed low shown p first.own first.open_here first.waited)

  -- what can commit commits
  settle_shown : (n : Node) (letters : List Letter) → IsPlaced plan n.site n → n.site < count_of plan → IsShown plan w n letters
      → IsShown plan w (settle plan n) letters
  settle_shown n letters placed low shown =
      let ids : AllPairs (λ a b. same_id a.id b.id ≡ false) (prepares n.log) =
      subst (λ l. AllPairs (λ a b. same_id a.id b.id ≡ false) (prepares l)) shown.same_log ((each_cluster_is_kept plan shown.cluster shown.reached).laws n.site).pool.ids in
      commits_shown n (ready_ones plan n) letters placed low
      (AllPairs-filter (λ a b. same_id a.id b.id ≡ false) (λ p. is_reached plan n p.id.time) (own_open n)
      (AllPairs-filter (λ a b. same_id a.id b.id ≡ false) (is_own n.site) (unfinished n.log)
      (AllPairs-filter (λ a b. same_id a.id b.id ≡ false) (λ p. not (finished n.log p.id)) (prepares n.log) ids)))
      (are_ready plan n) shown

  log_sites : (n : Node) (letters : List Letter) → IsShown plan w n letters → All (λ r. origin r < count_of plan) n.log
  log_sites n letters shown =
      subst (λ l. All (λ r. origin r < count_of plan) l) shown.same_log
      (sites_only plan shown.cluster shown.reached (each_cluster_is_honest plan shown.cluster shown.reached) n.site)

  request_shown : (n : Node) (reading : ℕ) (ask : Asking) (letters : List Letter) → IsPlaced plan n.site n → n.site < count_of plan
      → IsShown plan w n letters → (o : Option Reply) → refusal n ask ≡ o
      → IsShown plan w (unless_refused plan n (asked n.log (next_id plan n reading) ask) o).node letters
  request_shown n reading ask letters placed low shown (Some reply) look = shown
  request_shown n reading ask letters placed low shown None none =
      settle_shown (entered plan n (asked n.log (next_id plan n reading) ask)) letters
      (placed_entered plan n.site n (asked n.log (next_id plan n reading) ask) placed) low
      (shown_entered plan w n letters placed low shown (asked n.log (next_id plan n reading) ask) refl (next_above plan n reading)
      (free_asked n (next_id plan n reading) ask (unrefused_free n ask none)))

  advanced_shown : (n : Node) (reading : ℕ) (letters : List Letter) → IsPlaced plan n.site n → n.site < count_of plan
      → IsShown plan w n letters → IsShown plan w (advanced plan n reading) letters
  advanced_shown n reading letters placed low shown = shown_clock plan w n letters placed low shown (max (clock plan n) (clamp reading)) (omega arith)

  push_shown : (n : Node) (reading : ℕ) (m : Message) (letters : List Letter) → IsPlaced plan n.site n → n.site < count_of plan
      → IsMessageOf (count_of plan) m → m.to ≡ n.site → Mem (letter_of plan m) letters → IsShown plan w n letters
      → IsShown plan w (settle plan (arrived plan (advanced plan n reading) m)) letters
  push_shown n reading m letters placed low formed here came shown =
      let ready : IsPlaced plan n.site (advanced plan n reading) = placed_advanced plan n.site n reading placed in
      settle_shown (arrived plan (advanced plan n reading) m) letters (placed_arrived plan n.site (advanced plan n reading) m ready) low
      (shown_arrived plan w (advanced plan n reading) letters ready low (advanced_shown n reading letters placed low shown) m here came
      (message_sites (count_of plan) m formed))

  nothing_sent : (n : Node) (letters : List Letter) (reply : Reply) → message_in reply ≡ None → IsShown plan w n letters
      → IsShown plan w n (letters ++ letters_in plan reply)
  nothing_sent n letters reply silent shown =
      subst (λ o. IsShown plan w n (letters ++ letters_of plan (cons_option o []))) (sym silent)
      (subst (IsShown plan w n) (sym (append-nil letters)) shown)

  input_shown : (n : Node) (reading : ℕ) (input : Input) (spent : Bool) (letters : List Letter) → IsPlaced plan n.site n → n.site < count_of plan
      → MayBeAsked plan n.site input → HasCome plan letters input → IsShown plan w n letters
      → IsShown plan w (by_clock plan n reading input spent).node (letters ++ letters_in plan (by_clock plan n reading input spent).reply)
  input_shown n reading input true letters placed low may come shown = subst (IsShown plan w n) (sym (append-nil letters)) shown
  input_shown n reading (Get key) false letters placed low may come shown = subst (IsShown plan w n) (sym (append-nil letters)) shown
  input_shown n reading (Status id) false letters placed low may come shown = subst (IsShown plan w n) (sym (append-nil letters)) shown
  input_shown n reading (Request ask) false letters placed low may come shown =
      nothing_sent (request plan n reading ask).node letters (request plan n reading ask).reply
      (request_silent plan n (asked n.log (next_id plan n reading) ask) (refusal n ask) (refusal_silent n ask))
      (request_shown n reading ask letters placed low shown (refusal n ask) refl)
  input_shown n reading (Pull to) false letters placed low may come shown =
      let after : IsShown plan w (advanced plan n reading) letters = advanced_shown n reading letters placed low shown in
      shown_sent plan w (advanced plan n reading) letters (placed_advanced plan n.site n reading placed) low after to may.below
      (log_sites (advanced plan n reading) letters after)
  input_shown n reading (Push m) false letters placed low may come shown =
      subst (IsShown plan w (settle plan (arrived plan (advanced plan n reading) m))) (sym (append-nil letters))
      (push_shown n reading m letters placed low may.message may.here come shown)

  joined : (letters : List Letter) (o : Option Message) (later : List Message)
      → (letters ++ letters_of plan (cons_option o [])) ++ letters_of plan later ≡ letters ++ letters_of plan (cons_option o later)
  joined letters None later = ap (λ l. l ++ letters_of plan later) (append-nil letters)
  joined letters (Some m) later = append_assoc letters (letter_of plan m ∷ []) (letters_of plan later)

  -- the entries of a batch
  pub entries_shown : (s : ℕ) → s < count_of plan → (n : Node) (es : List Entry) (letters : List Letter) → IsPlaced plan s n
      → All (λ e. MayBeAsked plan s e.input) es → All (λ e. HasCome plan letters e.input) es → IsShown plan w n letters
      → IsShown plan w (after_entries plan n es) (letters ++ letters_of plan (messages_in (replies plan n es)))
  entries_shown s low n [] letters placed may come shown = subst (IsShown plan w n) (sym (append-nil letters)) shown
  entries_shown s low n (e ∷ es) letters placed may come shown =
      let here : IsPlaced plan n.site n = record { at_site = refl; sized = placed.sized } in
      let first : IsShown plan w (after_entry plan n e) (letters ++ letters_in plan (step plan n e).reply) =
      input_shown n e.reading e.input (is_journaled e.input && is_spent plan n) letters here
      (subst (λ k. k < count_of plan) (sym placed.at_site) low)
      (subst (λ k. MayBeAsked plan k e.input) (sym placed.at_site) (All-head (λ x. MayBeAsked plan s x.input) e es may))
      (All-head (λ x. HasCome plan letters x.input) e es come) shown in
      subst (IsShown plan w (after_entries plan (after_entry plan n e) es))
      (joined letters (message_in (step plan n e).reply) (messages_in (replies plan (after_entry plan n e) es)))
      (entries_shown s low (after_entry plan n e) es (letters ++ letters_in plan (step plan n e).reply) (placed_entry plan s n e placed)
      (All-tail (λ x. MayBeAsked plan s x.input) e es may)
      (All-weaker (λ x. HasCome plan letters x.input) (λ x. HasCome plan (letters ++ letters_in plan (step plan n e).reply) x.input)
      (λ x came. still_come plan letters (letters_in plan (step plan n e).reply) x.input came) es
      (All-tail (λ x. HasCome plan letters x.input) e es come)) first)
