-- What each reply says of the log at its input, and that it stays true as the log grows.
use Rattle.helios_model.specs.declared.entries.Input.TheVariants.{Get, Status, Request, Pull, Push}
use Rattle.helios_model.specs.declared.records.Record.TheVariants.{Prepare, Commit}
use Rattle.helios_model.specs.declared.entries.Reply.TheVariants.{Prepared, Committed, Overwritten, Conflict, PoolFull}
use Rattle.helios_model.specs.World.Event.{Batch, Restart}
use Rattle.helios_model.specs.World.Ending.{Done, Kept, Lost}
use Rattle.helios_model.specs.World.{World, Told, Event, MayHappen, MayRun, first_world, kept, done, message_in, messages_in, node_of, replies, happens, run}
use Rattle.helios_model.specs.Node.{Node, clock, is_spent, own_open}
use Rattle.helios_model.specs.Request.{asked, clash, clash_refusal, entered, next_id, refusal, stale_read, stale_refusal, unless_refused}
use Rattle.helios_model.specs.Messages.{intake_of}
use Rattle.helios_model.specs.Settle.{ready, settle}
use Rattle.helios_model.specs.Step.{after_entry, after_entries, by_clock, is_journaled, step}
use Rattle.protocol_laws.specs.Told.{IsTaken, IsCommitted, IsTrueOfAsk, IsTrueTo, ToldIsTrue, EachToldIsTrue, EachSentIsTold}
use Rattle.protocol_laws.proofs.WorldGrowth.{GoesOn, entry_goes, entries_go, kept_goes}
use Rattle.std.proofs.Common.{All, Bool, Contains, List, None, Option, Some, [], ap, append_assoc, arith, false, find, fold, if◌then◌else◌, inl, inr, is_some, length, nat_le, not, option_map, refl, subst, sym, take, true, ℕ, ◌&&◌, ◌++◌, ◌+◌, ◌<◌, ◌∙◌, ◌∷◌, ◌≡◌, ◌≤◌, ◌⊎◌}
use Rattle.std.proofs.lemmas.Bool.{both_ways, cond_both, false_from_ne_true, leb-true, not-true, or_cases}
use Rattle.std.proofs.lemmas.List.{length-append, take_at}
use Rattle.std.proofs.lemmas.List.Elements.{All-append, All-cons, All-contains, All-head, All-nil, All-tail, All-weaker, Contains-append_left, Contains-append_right, filter_map-append}
use Rattle.std.proofs.lemmas.List.Folds.{find-append, list_any-append}
use Rattle.std.proofs.lemmas.Option.{same_Some}
use Rattle.std.specs.Option.{option_or}
use Rattle.helios_model.specs.Ids.{same_id, same_version}
use Rattle.helios_model.specs.Limits.{most_open}
use Rattle.helios_model.specs.Log.{current, ends, finished, origin, own_time, prepare_of, prepares, unfinished}
use Rattle.helios_model.specs.Plans.{PlanData, count_of}
use Rattle.helios_model.specs.Transactions.{Asking, Transaction, keys_conflict, touched_by, touched_by_ask}
use Rattle.helios_model.specs.declared.entries.Entry.{Entry}
use Rattle.helios_model.specs.declared.entries.Input.{Input}
use Rattle.helios_model.specs.declared.entries.Reply.{Reply}
use Rattle.helios_model.specs.declared.ids.TxnId.{TxnId}
use Rattle.helios_model.specs.declared.records.Record.{Record}
use Rattle.helios_model.specs.declared.transactions.ReadItem.{ReadItem}
use Rattle.protocol_laws.proofs.EndRuns.{IsMadeBy, IsRun, commits_end, end_one, runs}
use Rattle.protocol_laws.proofs.Ids.{same_id_is, same_id_itself, same_version_of}
use Rattle.protocol_laws.proofs.JournalLaws.{in_each}
use Rattle.protocol_laws.proofs.Lists.{all_from, find_passes, or_false, some_of}
use Rattle.protocol_laws.proofs.NodeRules.{IsSteady, commit, inside_entered, next_above, node_steady, settled_intake, steady_entry}
use Rattle.protocol_laws.proofs.OneMore.{finished_one_more, prepare_of_grows, prepare_stands, prepares_prepare, unfinished_is}
use Rattle.protocol_laws.proofs.Placed.{node_placed}
use Rattle.protocol_laws.proofs.PoolSteps.{fresh_unended}
use Rattle.protocol_laws.proofs.Worlds.{kept_here}
use Rattle.protocol_laws.specs.Order.{IsNew}

-- a request that is taken

-- no Prepare of the log has an id above the clock
new_here : (plan : PlanData) (n : Node) (id : TxnId) → IsSteady plan n → id.site ≡ n.site → clock plan n < id.time → IsNew n.log id
new_here plan n id h own above = all_from (λ q. same_id q.id id ≡ false) (prepares n.log) differs
  where
    differs : (q : Transaction) → Contains (prepares n.log) q → same_id q.id id ≡ false
    differs q there = false_from_ne_true (same_id q.id id) (λ same.
        let one : q.id ≡ id = same_id_is q.id id same in
        let low : q.id.time ≤ clock plan n =
        All-contains (λ r. origin r ≡ n.site → own_time r ≤ clock plan n) n.log (Prepare q) h.held.own (prepare_stands n.log q there) (ap (λ x. x.site) one ∙ own) in
        let at_id : id.time ≤ clock plan n = subst (λ x. x.time ≤ clock plan n) one low in
        omega arith)

find_nothing : {X : Type 0} (p : X → Bool) (xs : List X) → All (λ x. p x ≡ false) xs → find p xs ≡ None
find_nothing p [] h = refl
find_nothing p (x ∷ xs) h =
    let fails : p x ≡ false = All-head (λ y. p y ≡ false) x xs h in
    rw fails (find_nothing p xs (All-tail (λ y. p y ≡ false) x xs h))

found_new : (log : List Record) (p : Transaction) → IsNew log p.id → prepare_of (log ++ Prepare p ∷ []) p.id ≡ Some p
found_new log p new =
    let none : prepare_of log p.id ≡ None = find_nothing (λ q. same_id q.id p.id) (prepares log) new in
    let itself : same_id p.id p.id ≡ true = same_id_itself p.id in
    let one : find (λ q. same_id q.id p.id) (p ∷ []) ≡ Some p = rw itself refl in
    ap (find (λ q. same_id q.id p.id)) (prepares_prepare log p)
    ∙ find-append (λ q. same_id q.id p.id) (prepares log) (p ∷ [])
    ∙ ap (λ o. option_or o (find (λ q. same_id q.id p.id) (p ∷ []))) none
    ∙ one

module _ (plan : PlanData) (n : Node) (id : TxnId) (ask : Asking) (h : IsSteady plan n) (own : id.site ≡ n.site) (above : clock plan n < id.time) where
  abbrev p : Transaction
  p = asked n.log id ask

  abbrev before_settling : Node
  before_settling = entered plan n p

  abbrev after_settling : Node
  after_settling = settle plan before_settling

  new : IsNew n.log id
  new = new_here plan n id h own above

  run_of : IsRun commit (ready plan before_settling) (intake_of plan before_settling) (fold (end_one commit) (intake_of plan before_settling) (ready plan before_settling))
  run_of = runs commit (ready plan before_settling) (intake_of plan before_settling) commits_end

  whole : after_settling.log ≡ (n.log ++ Prepare p ∷ []) ++ run_of.more
  whole = ap (λ a. a.log) (settled_intake plan before_settling (inside_entered plan n p h.inside)) ∙ run_of.grown

  taken_now : IsTaken n.site n.log after_settling.log ask id
  taken_now =
      let first : prepare_of (n.log ++ Prepare p ∷ []) id ≡ Some p = found_new n.log p new in
      record {
        own = own;
        found = ap (λ log. prepare_of log id) whole
            ∙ prepare_of_grows (n.log ++ Prepare p ∷ []) run_of.more id (ap (λ o. is_some o) first)
            ∙ first;
      }

  committed_now : finished after_settling.log id ≡ true → IsCommitted n.site n.log after_settling.log ask id
  committed_now ended =
      by_side (or_cases (finished (n.log ++ Prepare p ∷ []) id) (finished run_of.more id)
      (sym (ap (λ log. finished log id) whole ∙ list_any-append (ends id) (n.log ++ Prepare p ∷ []) run_of.more) ∙ ended))
    where
      unended : finished (n.log ++ Prepare p ∷ []) id ≡ false
      unended = finished_one_more n.log (Prepare p) id ∙ or_false (finished n.log id) ∙ fresh_unended n.log id h.held.backed new

      by_record : (r : Record) → Contains run_of.more r → ends id r ≡ true → IsMadeBy commit r → IsCommitted n.site n.log after_settling.log ask id
      by_record r there ends_it made =
          let of_id : same_id made.0 id ≡ true = ap (ends id) (sym made.2) ∙ ends_it in
          let same : r ≡ Commit id made.1 = made.2 ∙ ap (λ x. Commit x made.1) (same_id_is made.0 id of_id) in
          record {
            taken = taken_now;
            time = made.1;
            stands = subst (λ log. Contains log (Commit id made.1)) (sym whole)
                (Contains-append_right (n.log ++ Prepare p ∷ []) run_of.more (Commit id made.1) (subst (Contains run_of.more) same there));
          }

      by_side : (finished (n.log ++ Prepare p ∷ []) id ≡ true) ⊎ (finished run_of.more id ≡ true) → IsCommitted n.site n.log after_settling.log ask id
      by_side (inl early) = absurd (both_ways (finished (n.log ++ Prepare p ∷ []) id) unended early)
      by_side (inr late) =
          let found = some_of (ends id) run_of.more late in
          by_record found.0 found.1 found.2 (All-contains (IsMadeBy commit) run_of.more found.0 run_of.made found.1)

  accept_true : IsTrueOfAsk n.site n.log after_settling.log ask (if finished after_settling.log id then Committed id else Prepared id)
  accept_true =
      cond_both (finished after_settling.log id) (Committed id) (Prepared id) (IsTrueOfAsk n.site n.log after_settling.log ask)
      committed_now (λ not_yet. taken_now)

-- a request that is refused

stale_true : (site : ℕ) (log after : List Record) (ask : Asking) (o : Option ReadItem) (reply : Reply) → stale_read log ask.reads ≡ o
    → option_map (λ r. Overwritten r.key (current log r.key)) o ≡ Some reply → IsTrueOfAsk site log after ask reply
stale_true site log after ask None reply look gives = absurd (cc)
stale_true site log after ask (Some r) reply look gives =
    let passes = find_passes (λ x. not (same_version x.version (current log x.key))) ask.reads r look in
    let differs : same_version r.version (current log r.key) ≡ false = not-true (same_version r.version (current log r.key)) passes.1 in
    let said : Overwritten r.key (current log r.key) ≡ reply = same_Some (Overwritten r.key (current log r.key)) reply gives in
    subst (IsTrueOfAsk site log after ask) said (record {
      read = r;
      asked_for = passes.0;
      at_key = refl;
      other = λ same. both_ways (same_version r.version (current log r.key)) differs (same_version_of r.version (current log r.key) same);
      is_current = refl;
    })

clash_true : (site : ℕ) (log after : List Record) (ask : Asking) (o : Option Transaction) (reply : Reply) → clash log ask ≡ o
    → option_map (λ q. Conflict q.id) o ≡ Some reply → IsTrueOfAsk site log after ask reply
clash_true site log after ask None reply look gives = absurd (cc)
clash_true site log after ask (Some q) reply look gives =
    let passes = find_passes (λ x. keys_conflict (touched_by_ask ask) (touched_by x)) (unfinished log) q look in
    let parts = unfinished_is log q passes.0 in
    let said : Conflict q.id ≡ reply = same_Some (Conflict q.id) reply gives in
    subst (IsTrueOfAsk site log after ask) said
    (record { other = q; named = refl; logged = prepare_stands log q parts.0; open_then = parts.1; conflicts = passes.1 })

refusal_true : (n : Node) (after : List Record) (ask : Asking) (reply : Reply) → refusal n ask ≡ Some reply → IsTrueOfAsk n.site n.log after ask reply
refusal_true n after ask reply gives = by_room (nat_le most_open (length (own_open n))) refl gives
  where
    by_stale : (o : Option Reply) → stale_refusal n.log ask ≡ o → option_or o (clash_refusal n.log ask) ≡ Some reply → IsTrueOfAsk n.site n.log after ask reply
    by_stale None look later = clash_true n.site n.log after ask (clash n.log ask) reply refl later
    by_stale (Some said) look first = stale_true n.site n.log after ask (stale_read n.log ask.reads) reply refl (look ∙ first)

    by_room : (full : Bool) → nat_le most_open (length (own_open n)) ≡ full
        → option_or (if full then Some PoolFull else None) (option_or (stale_refusal n.log ask) (clash_refusal n.log ask)) ≡ Some reply
        → IsTrueOfAsk n.site n.log after ask reply
    by_room true look first = subst (IsTrueOfAsk n.site n.log after ask) (same_Some PoolFull reply first) (leb-true most_open (length (own_open n)) look)
    by_room false look later = by_stale (stale_refusal n.log ask) refl later

request_true : (plan : PlanData) (n : Node) (reading : ℕ) (ask : Asking) (o : Option Reply) → IsSteady plan n → refusal n ask ≡ o
    → IsTrueOfAsk n.site n.log (unless_refused plan n (asked n.log (next_id plan n reading) ask) o).node.log ask
    (unless_refused plan n (asked n.log (next_id plan n reading) ask) o).reply
request_true plan n reading ask (Some reply) h look = refusal_true n n.log ask reply look
request_true plan n reading ask None h none = accept_true plan n (next_id plan n reading) ask h refl (next_above plan n reading)

clock_true : (plan : PlanData) (n : Node) (reading : ℕ) (input : Input) (spent : Bool) → IsSteady plan n → (is_journaled input && is_spent plan n) ≡ spent
    → IsTrueTo plan n.site n.log (by_clock plan n reading input spent).node.log input (by_clock plan n reading input spent).reply
clock_true plan n reading (Get key) true h look = absurd (cc)
clock_true plan n reading (Status id) true h look = absurd (cc)
clock_true plan n reading (Request ask) true h look = tt
clock_true plan n reading (Pull to) true h look = tt
clock_true plan n reading (Push m) true h look = tt
clock_true plan n reading (Get key) false h look = (refl, refl)
clock_true plan n reading (Status id) false h look = refl
clock_true plan n reading (Request ask) false h look = request_true plan n reading ask (refusal n ask) h refl
clock_true plan n reading (Pull to) false h look = refl
clock_true plan n reading (Push m) false h look = tt

pub step_true : (plan : PlanData) (n : Node) (e : Entry) → IsSteady plan n
    → IsTrueTo plan n.site n.log (after_entry plan n e).log e.input (step plan n e).reply
step_true plan n e h = clock_true plan n e.reading e.input (is_journaled e.input && is_spent plan n) h refl

-- as the log grows

ask_grown : (site : ℕ) (before log more : List Record) (ask : Asking) (reply : Reply) → IsTrueOfAsk site before log ask reply
    → IsTrueOfAsk site before (log ++ more) ask reply
ask_grown site before log more ask (Prepared id) h = record { own = h.own; found = prepare_of_grows log more id (ap (λ o. is_some o) h.found) ∙ h.found }
ask_grown site before log more ask (Committed id) h = record {
  taken = record { own = h.taken.own; found = prepare_of_grows log more id (ap (λ o. is_some o) h.taken.found) ∙ h.taken.found };
  time = h.time;
  stands = Contains-append_left log more (Commit id h.time) h.stands;
}
ask_grown site before log more ask reply h = h

true_grown : (plan : PlanData) (site : ℕ) (before log more : List Record) (input : Input) (reply : Reply) → IsTrueTo plan site before log input reply
    → IsTrueTo plan site before (log ++ more) input reply
true_grown plan site before log more (Get key) reply h = h
true_grown plan site before log more (Status id) reply h = h
true_grown plan site before log more (Request ask) reply h = ask_grown site before log more ask reply h
true_grown plan site before log more (Pull to) reply h = h
true_grown plan site before log more (Push m) reply h = h

-- what was told of a site with this log
pub record IsToldIn (plan : PlanData) (log : List Record) (t : Told) : Type 0 where
  pub before : List Record
  pub later : List Record
  pub cut : log ≡ before ++ later
  pub size : length before ≡ t.log_length
  pub holds : IsTrueTo plan t.site before log t.input t.reply

told_grown : (plan : PlanData) (log more : List Record) (t : Told) → IsToldIn plan log t → IsToldIn plan (log ++ more) t
told_grown plan log more t h = record {
  before = h.before;
  later = h.later ++ more;
  cut = ap (λ xs. xs ++ more) h.cut ∙ append_assoc h.before h.later more;
  size = h.size;
  holds = true_grown plan t.site h.before log more t.input t.reply h.holds;
}

pub told_gone : (plan : PlanData) (n m : Node) (t : Told) → GoesOn plan n m → IsToldIn plan n.log t → IsToldIn plan m.log t
told_gone plan n m t gone h = subst (λ log. IsToldIn plan log t) (sym gone.grown) (told_grown plan n.log gone.more t h)

-- what is told of a batch is of the node's site
record IsToldBy (plan : PlanData) (n : Node) (log : List Record) (t : Told) : Type 0 where
  at_site : t.site ≡ n.site
  told : IsToldIn plan log t

replies_told : (plan : PlanData) (n : Node) (entries : List Entry) → IsSteady plan n
    → All (IsToldBy plan n (after_entries plan n entries).log) (replies plan n entries)
replies_told plan n [] h = All-nil (IsToldBy plan n n.log)
replies_told plan n (e ∷ es) h =
    let m : Node = after_entry plan n e in
    let steady : IsSteady plan m = steady_entry plan n e h in
    let gone : GoesOn plan n m = entry_goes plan n e h in
    let told : Told = record { site = n.site; input = e.input; reply = (step plan n e).reply; log_length = length n.log } in
    let here : IsToldIn plan m.log told = record { before = n.log; later = gone.more; cut = gone.grown; size = refl; holds = step_true plan n e h } in
    All-cons (IsToldBy plan n (after_entries plan m es).log) told (replies plan m es)
    (record { at_site = refl; told = told_gone plan m (after_entries plan m es) told (entries_go plan m es steady) here })
    (All-weaker (IsToldBy plan m (after_entries plan m es).log) (IsToldBy plan n (after_entries plan m es).log)
    (λ t later. record { at_site = later.at_site ∙ gone.same_site; told = later.told }) (replies plan m es) (replies_told plan m es steady))

-- worlds

pub record IsToldHere (plan : PlanData) (w : World) (t : Told) : Type 0 where
  pub here : t.site < count_of plan
  pub told : IsToldIn plan (node_of plan w t.site).log t

pub record AreTold (plan : PlanData) (w : World) : Type 0 where
  pub told : All (IsToldHere plan w) w.told
  pub sent : w.sent ≡ messages_in w.told

kept_told : (plan : PlanData) (w : World) (site : ℕ) (entries : List Entry) → length w.journals ≡ count_of plan → (t : Told) → IsToldHere plan w t
    → IsToldHere plan (kept plan w site entries) t
kept_told plan w site entries journals t h = record {
  here = h.here;
  told = told_gone plan (node_of plan w t.site) (node_of plan (kept plan w site entries) t.site) t (kept_goes plan w site entries t.site journals h.here) h.told;
}

new_told : (plan : PlanData) (w : World) (site : ℕ) (entries : List Entry) → length w.journals ≡ count_of plan → site < count_of plan
    → All (IsToldHere plan (kept plan w site entries)) (replies plan (node_of plan w site) entries)
new_told plan w site entries journals low =
    All-weaker (IsToldBy plan (node_of plan w site) (after_entries plan (node_of plan w site) entries).log) (IsToldHere plan (kept plan w site entries)) of_each
    (replies plan (node_of plan w site) entries) (replies_told plan (node_of plan w site) entries (node_steady plan w site low))
  where
    of_each : (t : Told) → IsToldBy plan (node_of plan w site) (after_entries plan (node_of plan w site) entries).log t → IsToldHere plan (kept plan w site entries) t
    of_each t h =
        let same : t.site ≡ site = h.at_site ∙ (node_placed plan w site).at_site in
        let inside : site < length w.journals = subst (λ count. site < count) (sym journals) low in
        let node : node_of plan (kept plan w site entries) t.site ≡ after_entries plan (node_of plan w site) entries =
        ap (node_of plan (kept plan w site entries)) same ∙ kept_here plan w site entries inside in
        record {
          here = subst (λ s. s < count_of plan) (sym same) low;
          told = subst (λ (m : Node). IsToldIn plan m.log t) (sym node) h.told;
        }

-- what is told changes no journal
told_done : (plan : PlanData) (w : World) (site : ℕ) (entries : List Entry) (ts : List Told) → All (IsToldHere plan (kept plan w site entries)) ts
    → All (IsToldHere plan (done plan w site entries)) ts
told_done plan w site entries ts h =
    All-weaker (IsToldHere plan (kept plan w site entries)) (IsToldHere plan (done plan w site entries))
    (λ t told. record { here = told.here; told = told.told }) ts h

event_told : (plan : PlanData) (w : World) (e : Event) → length w.journals ≡ count_of plan → MayHappen plan w e → AreTold plan w → AreTold plan (happens plan w e)
event_told plan w (Batch site entries Done) journals may h = record {
  told = All-append (IsToldHere plan (happens plan w (Batch site entries Done))) w.told (replies plan (node_of plan w site) entries)
      (told_done plan w site entries w.told
      (All-weaker (IsToldHere plan w) (IsToldHere plan (kept plan w site entries)) (kept_told plan w site entries journals) w.told h.told))
      (told_done plan w site entries (replies plan (node_of plan w site) entries) (new_told plan w site entries journals may.here));
  sent = ap (λ ms. ms ++ messages_in (replies plan (node_of plan w site) entries)) h.sent
      ∙ sym (filter_map-append (λ (t : Told). message_in t.reply) w.told (replies plan (node_of plan w site) entries));
}
event_told plan w (Batch site entries Kept) journals may h = record {
  told = All-weaker (IsToldHere plan w) (IsToldHere plan (kept plan w site entries)) (kept_told plan w site entries journals) w.told h.told;
  sent = h.sent;
}
event_told plan w (Batch site entries Lost) journals may h = h
event_told plan w (Restart site) journals may h = h

pub each_told : (plan : PlanData) (events : List Event) → MayRun plan (first_world plan) events → AreTold plan (run plan (first_world plan) events)
each_told plan events may = in_each plan (AreTold plan) (record { told = All-nil (IsToldHere plan (first_world plan)); sent = refl }) (event_told plan) events may

pub told_before : (plan : PlanData) (w : World) (t : Told) (h : IsToldIn plan (node_of plan w t.site).log t)
    → take t.log_length (node_of plan w t.site).log ≡ h.before
told_before plan w t h = ap (take t.log_length) h.cut ∙ take_at h.before h.later t.log_length h.size

told_true : (plan : PlanData) (w : World) (t : Told) → IsToldHere plan w t → ToldIsTrue plan w t
told_true plan w t h = record {
  here = h.here;
  within =
      let size : length (node_of plan w t.site).log ≡ length h.told.before + length h.told.later = ap (λ xs. length xs) h.told.cut ∙ length-append h.told.before h.told.later in
      let front : length h.told.before ≡ t.log_length = h.told.size in
      omega arith;
  holds = subst (λ records. IsTrueTo plan t.site records (node_of plan w t.site).log t.input t.reply) (sym (told_before plan w t h.told)) h.told.holds;
}

pub each_told_is_true : EachToldIsTrue
each_told_is_true plan events may =
    All-weaker (IsToldHere plan (run plan (first_world plan) events)) (ToldIsTrue plan (run plan (first_world plan) events))
    (told_true plan (run plan (first_world plan) events)) (run plan (first_world plan) events).told (each_told plan events may).told

pub each_sent_is_told : EachSentIsTold
each_sent_is_told plan events may = (each_told plan events may).sent
