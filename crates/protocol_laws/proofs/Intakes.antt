-- The laws of one log hold again once a site has taken a message's records in, whoever sent them.
use Rattle.std.proofs.Common.{◌≡◌, ◌≢◌, ◌∙◌, ap, refl, sym, subst, ℕ, ◌+◌, ◌<◌, ◌≤◌, true, false, not, ◌⊎◌, inl, inr, nat_eq, nat_le, Some, is_some, List, [], ◌∷◌, ◌++◌, append_assoc, get_or, map, filter, fold, All, AllPairs, Contains, arith, eqb-true, eq-eqb}
use Rattle.std.proofs.lemmas.List.{append-nil}
use Rattle.std.proofs.lemmas.List.Elements.{All-nil, All-cons, All-head, All-tail, All-push, All-append, All-weaker, All-contains, Contains-append_left, Contains-push, Contains-push_cases}
use Rattle.std.proofs.lemmas.List.Kept.{AllPairs-filter}
use Rattle.std.proofs.lemmas.Bool.{both_ways, cond_both, or_from, or_parts, eqb-false, leb-false, false_from_ne_true, not-true}
use Rattle.helios_model.specs.declared.ids.TxnId.{TxnId}
use Rattle.helios_model.specs.declared.records.Record.{Record}
use Rattle.helios_model.specs.declared.records.Record.TheVariants.{Prepare, Commit, Abort}
use Rattle.helios_model.specs.Ids.{same_id}
use Rattle.helios_model.specs.Transactions.{Transaction, conflict}
use Rattle.helios_model.specs.Log.{origin, own_time, ends, finished, prepares, prepare_of, unfinished, is_own}
use Rattle.helios_model.specs.Exchange.{Intake, with_taken, is_passed, is_unfinished, abort_one, take_prepare, take_new, take_one, take_all}
use Rattle.protocol_laws.specs.Shapes.{Rises}
use Rattle.protocol_laws.specs.Order.{IsNew}
use Rattle.protocol_laws.specs.LogLaws.{EndsLater, LogLaws}
use Rattle.protocol_laws.proofs.Lists.{all_from, some_of, contains_cases, contains_here, contains_later, contains_filter, contains_from_filter, pairs_head, pairs_tail, find_finds}
use Rattle.protocol_laws.proofs.Ids.{same_id_is, same_id_itself}
use Rattle.protocol_laws.proofs.OneMore.{finished_one_more, prepares_end, prepares_prepare, unfinished_end, unfinished_prepare, unfinished_is, prepare_stands}
use Rattle.protocol_laws.proofs.Fits.{conflict_back}
use Rattle.protocol_laws.proofs.PoolSteps.{found_itself, fresh_unended}
use Rattle.protocol_laws.proofs.LogSteps.{LawsBut, excuses_none, laws_whole, laws_arrive, laws_abort, laws_commit}

-- no own record is later than the clock
abbrev pub IsBelow : ℕ → ℕ → Record → Type 0
IsBelow site clock r = origin r ≡ site → own_time r ≤ clock

-- an own Abort above a time
abbrev pub IsAbortAbove : ℕ → ℕ → Record → Type 0
IsAbortAbove site low (Prepare p) = ⊥
IsAbortAbove site low (Commit id time) = ⊥
IsAbortAbove site low (Abort id time cause) = (id.site ≡ site) × (low < time)

abort_above_own : (site low : ℕ) (r : Record) → IsAbortAbove site low r → origin r ≡ site
abort_above_own site low (Prepare p) h = absurd h
abort_above_own site low (Commit id time) h = absurd h
abort_above_own site low (Abort id time cause) h = h.0

abort_above_lower : (site low high : ℕ) (r : Record) → low ≤ high → IsAbortAbove site high r → IsAbortAbove site low r
abort_above_lower site low high (Prepare p) le h = h
abort_above_lower site low high (Commit id time) le h = h
abort_above_lower site low high (Abort id time cause) le h = let above : high < time = h.1 in (h.0, omega arith)

-- own Aborts were appended, and the laws hold again
pub record HasAborted (site : ℕ) (a b : Intake) : Type 0 where
  pub more : List Record
  pub grown : b.log ≡ a.log ++ more
  pub clock : a.clock ≤ b.clock
  pub new : All (IsAbortAbove site a.clock) more
  pub laws : LogLaws site b.log
  pub own : All (IsBelow site b.clock) b.log

-- an own unfinished transaction that conflicts with an arrived one
pub record IsClashing (site : ℕ) (q : Transaction) (log : List Record) (p : Transaction) : Type 0 where
  pub stands : Contains (prepares log) p
  pub unended : finished log p.id ≡ false
  pub own : p.id.site ≡ site
  pub conflicts : conflict q p ≡ true

-- between the arrival of a Prepare and its last Abort: these are the ones that are still to be aborted
pub record IsAborting (site : ℕ) (q : Transaction) (a : Intake) (ps : List Transaction) : Type 0 where
  pub laws : LawsBut site (conflict q) a.log
  pub foreign : q.id.site ≢ site
  pub arrived : Contains (prepares a.log) q
  pub clashes : All (IsClashing site q a.log) ps
  pub apart : AllPairs (λ x y. same_id x.id y.id ≡ false) ps
  pub rest : (p : Transaction) → Contains (unfinished a.log) p → p.id.site ≡ site → conflict q p ≡ true → Contains ps p
  pub own : All (IsBelow site a.clock) a.log

aborting_on : (site : ℕ) (q : Transaction) (a : Intake) (x : Transaction) (ps : List Transaction) → IsAborting site q a (x ∷ ps)
    → IsAborting site q (abort_one q.id a x.id) ps
aborting_on site q a x ps h = record {
  laws = laws_abort site (conflict q) a.log x.id (a.clock + 1) q.id h.laws
      (record { prepared = find_finds (λ y. same_id y.id x.id) (prepares a.log) x first.stands (same_id_itself x.id); unended = first.unended })
      timed
      (λ own. record {
        elsewhere = h.foreign;
        aborted = x;
        aborted_id = refl;
        aborted_stands = first.stands;
        other = q;
        other_id = refl;
        other_stands = h.arrived;
        conflicts = conflict_back x q ∙ first.conflicts;
      });
  foreign = h.foreign;
  arrived = subst (λ qs. Contains qs q) (sym (prepares_end a.log (Abort x.id (a.clock + 1) q.id) refl)) h.arrived;
  clashes = λ k d low. still (get_or ps k d) (pairs_head (λ y z. same_id y.id z.id ≡ false) x ps h.apart k d low) (All-tail (IsClashing site q a.log) x ps h.clashes k d low);
  apart = pairs_tail (λ y z. same_id y.id z.id ≡ false) x ps h.apart;
  rest = λ p there own conflicts. left p
      (contains_from_filter (λ y. not (ends y.id (Abort x.id (a.clock + 1) q.id))) (unfinished a.log) p
      (subst (λ ys. Contains ys p) (unfinished_end a.log (Abort x.id (a.clock + 1) q.id) refl) there)) own conflicts;
  own = All-push (IsBelow site (a.clock + 1)) a.log (Abort x.id (a.clock + 1) q.id)
      (All-weaker (IsBelow site a.clock) (IsBelow site (a.clock + 1)) (λ r below its. let low : own_time r ≤ a.clock = below its in omega arith) a.log h.own)
      (λ its. omega arith);
}
  where
    first : IsClashing site q a.log x
    first = All-head (IsClashing site q a.log) x ps h.clashes

    timed : x.id.time < a.clock + 1
    timed =
        let below : x.id.time ≤ a.clock = All-contains (IsBelow site a.clock) a.log (Prepare x) h.own (prepare_stands a.log x first.stands) first.own in
        omega arith

    still : (y : Transaction) → same_id x.id y.id ≡ false → IsClashing site q a.log y → IsClashing site q (a.log ++ Abort x.id (a.clock + 1) q.id ∷ []) y
    still y differs c = record {
      stands = subst (λ ys. Contains ys y) (sym (prepares_end a.log (Abort x.id (a.clock + 1) q.id) refl)) c.stands;
      unended = finished_one_more a.log (Abort x.id (a.clock + 1) q.id) y.id ∙ or_from (finished a.log y.id) (same_id x.id y.id) c.unended differs;
      own = c.own;
      conflicts = c.conflicts;
    }

    by_place : (p : Transaction) → not (same_id x.id p.id) ≡ true → (x ≡ p) ⊎ Contains ps p → Contains ps p
    by_place p differs (inl same) =
        absurd (both_ways (same_id x.id p.id) (not-true (same_id x.id p.id) differs) (ap (λ y. same_id x.id y.id) (sym same) ∙ same_id_itself x.id))
    by_place p differs (inr later) = later

    left : (p : Transaction) → Contains (unfinished a.log) p × (not (same_id x.id p.id) ≡ true) → p.id.site ≡ site → conflict q p ≡ true → Contains ps p
    left p parts own conflicts = by_place p parts.1 (contains_cases x ps p (h.rest p parts.0 own conflicts))

aborts_go : (site : ℕ) (q : Transaction) (a : Intake) (ps : List Transaction) → IsAborting site q a ps
    → HasAborted site a (fold (abort_one q.id) a (map (λ p. p.id) ps))
aborts_go site q a [] h = record {
  more = [];
  grown = sym (append-nil a.log);
  clock = omega arith;
  new = All-nil (IsAbortAbove site a.clock);
  laws = laws_whole site (conflict q) a.log h.laws (λ p there own. false_from_ne_true (conflict q p) (λ conflicts.
      let none : Contains [] p = h.rest p there own conflicts in let low : none.0 < 0 = none.1 in omega arith));
  own = h.own;
}
aborts_go site q a (x ∷ ps) h = joined (aborts_go site q (abort_one q.id a x.id) ps (aborting_on site q a x ps h))
  where
    joined : HasAborted site (abort_one q.id a x.id) (fold (abort_one q.id) (abort_one q.id a x.id) (map (λ p. p.id) ps))
        → HasAborted site a (fold (abort_one q.id) (abort_one q.id a x.id) (map (λ p. p.id) ps))
    joined on = record {
      more = Abort x.id (a.clock + 1) q.id ∷ on.more;
      grown = on.grown ∙ append_assoc a.log (Abort x.id (a.clock + 1) q.id ∷ []) on.more;
      clock = let less : a.clock + 1 ≤ (fold (abort_one q.id) (abort_one q.id a x.id) (map (λ p. p.id) ps)).clock = on.clock in omega arith;
      new = All-cons (IsAbortAbove site a.clock) (Abort x.id (a.clock + 1) q.id) on.more
          ((All-head (IsClashing site q a.log) x ps h.clashes).own, omega arith)
          (All-weaker (IsAbortAbove site (a.clock + 1)) (IsAbortAbove site a.clock) (λ r. abort_above_lower site a.clock (a.clock + 1) r (omega arith)) on.more on.new);
      laws = on.laws;
      own = on.own;
    }

-- what a log takes in: other sites' records of a list, and own Aborts above the clock
abbrev pub IsTakenIn : ℕ → ℕ → List Record → Record → Type 0
IsTakenIn site low records x = (Contains records x × (origin x ≢ site)) ⊎ IsAbortAbove site low x

-- a log took records in, and the laws hold of it
pub record HasTakenIn (site : ℕ) (records : List Record) (a b : Intake) : Type 0 where
  pub more : List Record
  pub grown : b.log ≡ a.log ++ more
  pub clock : a.clock ≤ b.clock
  pub new : All (IsTakenIn site a.clock records) more
  pub laws : LogLaws site b.log
  pub own : All (IsBelow site b.clock) b.log

-- of another site's record above the row, all records of its origin in the log are earlier
abbrev pub IsAhead : ℕ → (ℕ → ℕ) → List Record → Record → Type 0
IsAhead site row log r = origin r ≢ site → row (origin r) < own_time r → All (λ x. origin x ≡ origin r → own_time x < own_time r) log

pub record IsTaking (site : ℕ) (row : ℕ → ℕ) (a : Intake) (records : List Record) : Type 0 where
  pub laws : LogLaws site a.log
  pub own : All (IsBelow site a.clock) a.log
  pub ahead : All (IsAhead site row a.log) records
  pub rises : Rises records
  pub timed : All EndsLater records

-- a record that is later than all of its origin has a new id
pub ahead_new : (log : List Record) (q : Transaction) → All (λ x. origin x ≡ q.id.site → own_time x < q.id.time) log → IsNew log q.id
ahead_new log q h = all_from (λ p. same_id p.id q.id ≡ false) (prepares log) (λ p there. false_from_ne_true (same_id p.id q.id) (λ same.
    let one : p.id ≡ q.id = same_id_is p.id q.id same in
    let less : p.id.time < q.id.time =
    All-contains (λ x. origin x ≡ q.id.site → own_time x < q.id.time) log (Prepare p) h (prepare_stands log p there) (ap (λ x. x.site) one) in
    let times : p.id.time ≡ q.id.time = ap (λ x. x.time) one in
    omega arith))

-- nothing is taken
taken_nothing : (site : ℕ) (row : ℕ → ℕ) (a : Intake) (r : Record) (rs : List Record) → IsTaking site row a (r ∷ rs) → HasTakenIn site (r ∷ []) a a
taken_nothing site row a r rs h = record {
  more = [];
  grown = sym (append-nil a.log);
  clock = omega arith;
  new = All-nil (IsTakenIn site a.clock (r ∷ []));
  laws = h.laws;
  own = h.own;
}

own_with : (site clock : ℕ) (log : List Record) (r : Record) → origin r ≢ site → All (IsBelow site clock) log → All (IsBelow site clock) (log ++ r ∷ [])
own_with site clock log r foreign own = All-push (IsBelow site clock) log r own (λ its. absurd (foreign its))

-- another site's record is taken alone
taken_alone : (site : ℕ) (a : Intake) (r : Record) → origin r ≢ site → All (IsBelow site a.clock) a.log → LogLaws site (a.log ++ r ∷ [])
    → HasTakenIn site (r ∷ []) a (with_taken a r)
taken_alone site a r foreign own laws = record {
  more = r ∷ [];
  grown = refl;
  clock = omega arith;
  new = All-cons (IsTakenIn site a.clock (r ∷ [])) r [] (inl (contains_here r [], foreign)) (All-nil (IsTakenIn site a.clock (r ∷ [])));
  laws = laws;
  own = own_with site a.clock a.log r foreign own;
}

-- an unfinished Prepare of an id
pub unfinished_found : (site : ℕ) (log : List Record) (id : TxnId) → LogLaws site log → is_unfinished log id ≡ true
    → (p : Transaction) × (prepare_of log id ≡ Some p) × (finished log id ≡ false)
unfinished_found site log id h wanted =
    let found = some_of (λ p. same_id p.id id) (unfinished log) wanted in
    let named : found.0.id ≡ id = same_id_is found.0.id id found.2 in
    let parts = unfinished_is log found.0 found.1 in
    (found.0, subst (λ x. prepare_of log x ≡ Some found.0) named (found_itself log found.0 h.pool.ids parts.0), ap (finished log) (sym named) ∙ parts.1)

prepare_taken : (site : ℕ) (a : Intake) (q : Transaction) → q.id.site ≢ site → LogLaws site a.log → All (IsBelow site a.clock) a.log → IsNew a.log q.id
    → HasTakenIn site (Prepare q ∷ []) a (take_prepare site a q)
prepare_taken site a q foreign laws own new = joined (aborts_go site q (with_taken a (Prepare q)) clashes start)
  where
    clashes : List Transaction
    clashes = filter (conflict q) (filter (is_own site) (unfinished a.log))

    pool_is : unfinished (a.log ++ Prepare q ∷ []) ≡ unfinished a.log ++ q ∷ []
    pool_is = unfinished_prepare a.log q (fresh_unended a.log q.id laws.pool.backed new)

    is_clashing : (p : Transaction) → Contains clashes p → IsClashing site q (a.log ++ Prepare q ∷ []) p
    is_clashing p there =
        let outer = contains_from_filter (conflict q) (filter (is_own site) (unfinished a.log)) p there in
        let inner = contains_from_filter (is_own site) (unfinished a.log) p outer.0 in
        let parts = unfinished_is a.log p inner.0 in
        record {
          stands = subst (λ ps. Contains ps p) (sym (prepares_prepare a.log q)) (Contains-append_left (prepares a.log) (q ∷ []) p parts.0);
          unended = finished_one_more a.log (Prepare q) p.id ∙ or_from (finished a.log p.id) false parts.1 refl;
          own = eqb-true p.id.site site inner.1;
          conflicts = outer.1;
        }

    by_place : (p : Transaction) → p.id.site ≡ site → conflict q p ≡ true → Contains (unfinished a.log) p ⊎ (q ≡ p) → Contains clashes p
    by_place p its conflicts (inl there) =
        contains_filter (conflict q) (filter (is_own site) (unfinished a.log)) p
        (contains_filter (is_own site) (unfinished a.log) p there (eq-eqb p.id.site site its)) conflicts
    by_place p its conflicts (inr same) = absurd (foreign (ap (λ x. x.id.site) same ∙ its))

    start : IsAborting site q (with_taken a (Prepare q)) clashes
    start = record {
      laws = laws_arrive site a.log q laws new foreign;
      foreign = foreign;
      arrived = subst (λ ps. Contains ps q) (sym (prepares_prepare a.log q)) (Contains-push (prepares a.log) q);
      clashes = all_from (IsClashing site q (a.log ++ Prepare q ∷ [])) clashes is_clashing;
      apart = AllPairs-filter (λ x y. same_id x.id y.id ≡ false) (conflict q) (filter (is_own site) (unfinished a.log))
          (AllPairs-filter (λ x y. same_id x.id y.id ≡ false) (is_own site) (unfinished a.log)
          (AllPairs-filter (λ x y. same_id x.id y.id ≡ false) (λ p. not (finished a.log p.id)) (prepares a.log) laws.pool.ids));
      rest = λ p there its conflicts. by_place p its conflicts (Contains-push_cases (unfinished a.log) q p (subst (λ ps. Contains ps p) pool_is there));
      own = own_with site a.clock a.log (Prepare q) foreign own;
    }

    joined : HasAborted site (with_taken a (Prepare q)) (take_prepare site a q) → HasTakenIn site (Prepare q ∷ []) a (take_prepare site a q)
    joined on = record {
      more = Prepare q ∷ on.more;
      grown = on.grown ∙ append_assoc a.log (Prepare q ∷ []) on.more;
      clock = on.clock;
      new = All-cons (IsTakenIn site a.clock (Prepare q ∷ [])) (Prepare q) on.more (inl (contains_here (Prepare q) [], foreign))
          (All-weaker (IsAbortAbove site a.clock) (IsTakenIn site a.clock (Prepare q ∷ [])) (λ x above. inr above) on.more on.new);
      laws = on.laws;
      own = on.own;
    }

new_taken : (site : ℕ) (row : ℕ → ℕ) (a : Intake) (r : Record) (rs : List Record) → IsTaking site row a (r ∷ rs) → origin r ≢ site → row (origin r) < own_time r
    → HasTakenIn site (r ∷ []) a (take_new site a r)
new_taken site row a (Prepare q) rs h foreign above =
    prepare_taken site a q foreign h.laws h.own
    (ahead_new a.log q (All-head (IsAhead site row a.log) (Prepare q) rs h.ahead foreign above))
new_taken site row a (Commit id time) rs h foreign above =
    cond_both (is_unfinished a.log id) (with_taken a (Commit id time)) a (HasTakenIn site (Commit id time ∷ []) a)
    (λ wanted. let found = unfinished_found site a.log id h.laws wanted in
    taken_alone site a (Commit id time) foreign h.own
    (laws_commit site a.log id time found.0 h.laws found.1 found.2 (All-head EndsLater (Commit id time) rs h.timed)))
    (λ unwanted. taken_nothing site row a (Commit id time) rs h)
new_taken site row a (Abort id time cause) rs h foreign above =
    cond_both (is_unfinished a.log id) (with_taken a (Abort id time cause)) a (HasTakenIn site (Abort id time cause ∷ []) a)
    (λ wanted. let found = unfinished_found site a.log id h.laws wanted in
    taken_alone site a (Abort id time cause) foreign h.own
    (laws_whole site (λ p. false) (a.log ++ Abort id time cause ∷ [])
    (laws_abort site (λ p. false) a.log id time cause (excuses_none site a.log h.laws)
    (record { prepared = ap (λ o. is_some o) found.1; unended = found.2 }) (All-head EndsLater (Abort id time cause) rs h.timed) (λ own. absurd (foreign own)))
    (λ p there own. refl)))
    (λ unwanted. taken_nothing site row a (Abort id time cause) rs h)

record_taken : (site : ℕ) (row : ℕ → ℕ) (a : Intake) (r : Record) (rs : List Record) → IsTaking site row a (r ∷ rs)
    → HasTakenIn site (r ∷ []) a (take_one site row a r)
record_taken site row a r rs h =
    cond_both (is_passed site row r) a (take_new site a r) (HasTakenIn site (r ∷ []) a) (λ passed. taken_nothing site row a r rs h)
    (λ kept. let parts = or_parts (nat_eq (origin r) site) (nat_le (own_time r) (row (origin r))) kept in
    new_taken site row a r rs h (eqb-false (origin r) site parts.0) (leb-false (own_time r) (row (origin r)) parts.1))

-- after a record was taken the others are still to be taken
taking_on : (site : ℕ) (row : ℕ → ℕ) (a b : Intake) (r : Record) (rs : List Record) → IsTaking site row a (r ∷ rs) → HasTakenIn site (r ∷ []) a b
    → IsTaking site row b rs
taking_on site row a b r rs h on = record {
  laws = on.laws;
  own = on.own;
  ahead = λ k d low. still (get_or rs k d) (All-tail (IsAhead site row a.log) r rs h.ahead k d low)
      (pairs_head (λ x y. origin x ≡ origin y → own_time x < own_time y) r rs h.rises k d low);
  rises = pairs_tail (λ x y. origin x ≡ origin y → own_time x < own_time y) r rs h.rises;
  timed = All-tail EndsLater r rs h.timed;
}
  where
    by_end : (x : Record) → (r ≡ x) ⊎ Contains [] x → r ≡ x
    by_end x (inl same) = same
    by_end x (inr none) = let low : none.0 < 0 = none.1 in absurd (omega arith)

    by_new : (y x : Record) → origin y ≢ site → (origin r ≡ origin y → own_time r < own_time y) → IsTakenIn site a.clock (r ∷ []) x
        → origin x ≡ origin y → own_time x < own_time y
    by_new y x foreign later (inl taken) same =
        let one : r ≡ x = by_end x (contains_cases r [] x taken.0) in
        subst (λ z. own_time z < own_time y) one (later (ap (λ z. origin z) one ∙ same))
    by_new y x foreign later (inr above) same = absurd (foreign (sym same ∙ abort_above_own site a.clock x above))

    still : (y : Record) → IsAhead site row a.log y → (origin r ≡ origin y → own_time r < own_time y) → IsAhead site row b.log y
    still y ahead later foreign high = subst (All (λ x. origin x ≡ origin y → own_time x < own_time y)) (sym on.grown)
        (All-append (λ x. origin x ≡ origin y → own_time x < own_time y) a.log on.more (ahead foreign high)
        (All-weaker (IsTakenIn site a.clock (r ∷ [])) (λ x. origin x ≡ origin y → own_time x < own_time y) (λ x. by_new y x foreign later) on.more on.new))

-- the laws hold at the end of the loop, whatever the records are: they rise, end later than they begin, and come after those that are there
pub takes_all : (site : ℕ) (row : ℕ → ℕ) (a : Intake) (rs : List Record) → IsTaking site row a rs → HasTakenIn site rs a (take_all site row a rs)
takes_all site row a [] h = record {
  more = [];
  grown = sym (append-nil a.log);
  clock = omega arith;
  new = All-nil (IsTakenIn site a.clock []);
  laws = h.laws;
  own = h.own;
}
takes_all site row a (r ∷ rs) h =
    joined (record_taken site row a r rs h)
    (takes_all site row (take_one site row a r) rs (taking_on site row a (take_one site row a r) r rs h (record_taken site row a r rs h)))
  where
    by_end : (x : Record) → (r ≡ x) ⊎ Contains [] x → Contains (r ∷ rs) x
    by_end x (inl same) = subst (Contains (r ∷ rs)) same (contains_here r rs)
    by_end x (inr none) = let low : none.0 < 0 = none.1 in absurd (omega arith)

    of_first : (x : Record) → IsTakenIn site a.clock (r ∷ []) x → IsTakenIn site a.clock (r ∷ rs) x
    of_first x (inl taken) = inl (by_end x (contains_cases r [] x taken.0), taken.1)
    of_first x (inr above) = inr above

    of_rest : (high : ℕ) (x : Record) → a.clock ≤ high → IsTakenIn site high rs x → IsTakenIn site a.clock (r ∷ rs) x
    of_rest high x le (inl taken) = inl (contains_later r rs x taken.0, taken.1)
    of_rest high x le (inr above) = inr (abort_above_lower site a.clock high x le above)

    joined : HasTakenIn site (r ∷ []) a (take_one site row a r) → HasTakenIn site rs (take_one site row a r) (take_all site row (take_one site row a r) rs)
        → HasTakenIn site (r ∷ rs) a (take_all site row (take_one site row a r) rs)
    joined first second = record {
      more = first.more ++ second.more;
      grown = second.grown ∙ ap (λ log. log ++ second.more) first.grown ∙ append_assoc a.log first.more second.more;
      clock = let one : a.clock ≤ (take_one site row a r).clock = first.clock in
          let two : (take_one site row a r).clock ≤ (take_all site row (take_one site row a r) rs).clock = second.clock in omega arith;
      new = All-append (IsTakenIn site a.clock (r ∷ rs)) first.more second.more
          (All-weaker (IsTakenIn site a.clock (r ∷ [])) (IsTakenIn site a.clock (r ∷ rs)) of_first first.more first.new)
          (All-weaker (IsTakenIn site (take_one site row a r).clock rs) (IsTakenIn site a.clock (r ∷ rs))
          (λ x. of_rest (take_one site row a r).clock x first.clock) second.more second.new);
      laws = second.laws;
      own = second.own;
    }
