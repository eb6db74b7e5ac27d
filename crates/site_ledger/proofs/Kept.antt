-- A ledger that takes one more record keeps what its log says.
use Rattle.std.proofs.Common.{◌≡◌, ◌∙◌, ap, refl, sym, subst, arith, ℕ, ◌<◌, Bool, true, false, not, ◌||◌, ◌⊎◌, inl, inr, cond, Option, Some, None, is_some, List, [], ◌∷◌, ◌++◌, get_or, map, filter, find, All}
use Rattle.std.specs.Prelude.{if◌then◌else◌}
use Rattle.std.specs.List.{cons_option, list_any}
use Rattle.std.proofs.lemmas.List.{append-nil}
use Rattle.std.proofs.lemmas.List.Elements.{All-cons, All-filter, All-head, All-map, All-nil, All-tail, All-weaker, filter_map-append}
use Rattle.std.proofs.lemmas.List.Folds.{list_any-append, list_any_at}
use Rattle.std.proofs.lemmas.List.Quantifiers.{all_pairs_push}
use Rattle.std.proofs.lemmas.Bool.{both_ways, cases_Bool}
use Rattle.helios_model.specs.declared.ids.TxnId.{TxnId}
use Rattle.helios_model.specs.declared.ids.Version.TheVariants.{Of}
use Rattle.helios_model.specs.declared.records.Record.{Record}
use Rattle.helios_model.specs.declared.records.Record.TheVariants.{Prepare, Commit, Abort}
use Rattle.helios_model.specs.Ids.{same_id}
use Rattle.helios_model.specs.Texts.{contains_text, same_text}
use Rattle.helios_model.specs.Transactions.{Transaction, conflict}
use Rattle.helios_model.specs.Log.{ends, finished, is_own, prepare_in, origin, own_time, prepare_of, prepares, unfinished, write_over}
use Rattle.helios_model.specs.Exchange.{clashing, is_unfinished}
use Rattle.node_limits.specs.Laws.{EndLeavesTheRest, PrepareWaitsBehindTheRest}
use Rattle.node_limits.specs.Limits.{IsAfter}
use Rattle.version_store.specs.declared.held.Held.{Held}
use Rattle.version_store.specs.Store.{value_in, version_in}
use Rattle.site_ledger.specs.Ledger.{IsKept, TimesRise}
use Rattle.site_ledger.proofs.Backed.{current_commit, current_other, found_passes, fresh_unended, open_found, prepare_of_grows, same_id_is, same_itself, value_commit, value_other}

or_false : (b : Bool) → (b || false) ≡ b
or_false true = refl
or_false false = refl

pub finished_more : (log : List Record) (r : Record) (id : TxnId) → finished (log ++ r ∷ []) id ≡ (finished log id || ends id r)
finished_more log r id = list_any-append (ends id) log (r ∷ []) ∙ ap (λ b. finished log id || b) (or_false (ends id r))

prepares_end : (log : List Record) (r : Record) → prepare_in r ≡ None → prepares (log ++ r ∷ []) ≡ prepares log
prepares_end log r e =
    let nothing : prepares (r ∷ []) ≡ [] = ap (λ o. cons_option o []) e in
    filter_map-append prepare_in log (r ∷ []) ∙ ap (λ ps. prepares log ++ ps) nothing ∙ append-nil (prepares log)

-- what holds of each Prepare of a log holds of each transaction of it
prepares_hold : (P : Record → Type 0) (Q : Transaction → Type 0) → ((p : Transaction) → P (Prepare p) → Q p) → (log : List Record) → All P log → All Q (prepares log)
prepares_hold P Q to [] h = All-nil Q
prepares_hold P Q to (Prepare p ∷ rs) h = All-cons Q p (prepares rs) (to p (All-head P (Prepare p) rs h)) (prepares_hold P Q to rs (All-tail P (Prepare p) rs h))
prepares_hold P Q to (Commit id time ∷ rs) h = prepares_hold P Q to rs (All-tail P (Commit id time) rs h)
prepares_hold P Q to (Abort id time cause ∷ rs) h = prepares_hold P Q to rs (All-tail P (Abort id time cause) rs h)

-- whether one is found
pub any_found : {X : Type 0} (t : X → Bool) (xs : List X) → list_any t xs ≡ is_some (find t xs)
any_found t [] = refl
any_found {X = X} t (x ∷ xs) = by_test (cases_Bool (t x)) (any_found t xs)
  where
    by_test : (t x ≡ true) ⊎ (t x ≡ false) → list_any t xs ≡ is_some (find t xs) → list_any t (x ∷ xs) ≡ is_some (find t (x ∷ xs))
    by_test (inl here) rest = rw here refl
    by_test (inr other) rest = rw other rest

-- a transaction with a new id is not held
pub not_held : (log : List Record) (pools : List Transaction) (store : List (List ℕ × Held)) (id : TxnId) → IsKept log pools store → prepare_of log id ≡ None
    → list_any (λ q. same_id q.id id) pools ≡ false
not_held log pools store id h none =
    let open_one : finished log id ≡ false = fresh_unended log id h.backed none in
    any_found (λ q. same_id q.id id) pools
    ∙ ap (λ ps. is_some (find (λ q. same_id q.id id) ps)) h.waiting
    ∙ ap (λ o. is_some o) (open_found log id)
    ∙ rw open_one (ap (λ o. is_some o) none)

backed_more : (log : List Record) (r : Record) → ((id : TxnId) → finished log id ≡ true → is_some (prepare_of log id) ≡ true)
    → ((id : TxnId) → ends id r ≡ true → is_some (prepare_of log id) ≡ true)
    → (id : TxnId) → finished (log ++ r ∷ []) id ≡ true → is_some (prepare_of (log ++ r ∷ []) id) ≡ true
backed_more log r old new id ended = by_test (cases_Bool (finished log id)) (cases_Bool (ends id r))
  where
    grown : is_some (prepare_of log id) ≡ true → is_some (prepare_of (log ++ r ∷ []) id) ≡ true
    grown some = ap (λ o. is_some o) (prepare_of_grows log (r ∷ []) id some) ∙ some

    neither : finished log id ≡ false → ends id r ≡ false → (finished log id || ends id r) ≡ false
    neither a b = rw (a, b) refl

    by_test : (finished log id ≡ true) ⊎ (finished log id ≡ false) → (ends id r ≡ true) ⊎ (ends id r ≡ false) → is_some (prepare_of (log ++ r ∷ []) id) ≡ true
    by_test (inl before) other = grown (old id before)
    by_test (inr open_one) (inl here) = grown (new id here)
    by_test (inr open_one) (inr other) =
        absurd (both_ways (finished (log ++ r ∷ []) id) (finished_more log r id ∙ neither open_one other) ended)

-- a transaction that was made after all that a log has of its origin has a new id
pub after_fresh : (log : List Record) (p : Transaction) → IsAfter log (Prepare p) → prepare_of log p.id ≡ None
after_fresh log p after = none_with p.id (prepares log) (prepares_hold (λ x. origin x ≡ p.id.site → own_time x < p.id.time) (λ q. q.id.site ≡ p.id.site → q.id.time < p.id.time) (λ q low. low) log after)
  where
    apart : (q : Transaction) → (q.id.site ≡ p.id.site → q.id.time < p.id.time) → same_id q.id p.id ≡ true → ⊥
    apart q low same =
        let is : q.id ≡ p.id = same_id_is q.id p.id same in
        let less : q.id.time < p.id.time = low (ap (λ x. x.site) is) in
        let times : q.id.time ≡ p.id.time = ap (λ x. x.time) is in
        omega arith

    none_with : (id : TxnId) (ps : List Transaction) → All (λ q. q.id.site ≡ p.id.site → q.id.time < p.id.time) ps → find (λ q. same_id q.id p.id) ps ≡ None
    none_with id [] h = refl
    none_with id (q ∷ qs) h = by_test (cases_Bool (same_id q.id p.id)) (none_with id qs (All-tail (λ x. x.id.site ≡ p.id.site → x.id.time < p.id.time) q qs h))
      where
        by_test : (same_id q.id p.id ≡ true) ⊎ (same_id q.id p.id ≡ false) → find (λ x. same_id x.id p.id) qs ≡ None → find (λ x. same_id x.id p.id) (q ∷ qs) ≡ None
        by_test (inl here) later = absurd (apart q (All-head (λ x. x.id.site ≡ p.id.site → x.id.time < p.id.time) q qs h) here)
        by_test (inr other) later = rw other later

pub kept_prepare : PrepareWaitsBehindTheRest → (log : List Record) (pools pools' : List Transaction) (store : List (List ℕ × Held)) (p : Transaction) → IsKept log pools store → IsAfter log (Prepare p)
    → pools' ≡ pools ++ p ∷ [] → IsKept (log ++ Prepare p ∷ []) pools' store
kept_prepare waits log pools pools' store p h after more =
    let none : prepare_of log p.id ≡ None = after_fresh log p after in
    let open_one : finished log p.id ≡ false = fresh_unended log p.id h.backed none in
    let one : filter (λ q. not (finished log q.id)) (p ∷ []) ≡ p ∷ [] = rw open_one refl in
    let both : prepares (log ++ Prepare p ∷ []) ≡ prepares log ++ p ∷ [] = filter_map-append prepare_in log (Prepare p ∷ []) in
    record {
      waiting = more ∙ ap (λ ps. ps ++ p ∷ []) h.waiting ∙ sym (waits log p ∙ ap (λ ps. unfinished log ++ ps) one);
      rise = subst TimesRise (sym both) (all_pairs_push (λ a b. a.id.site ≡ b.id.site → a.id.time < b.id.time) (prepares log) p h.rise
          (prepares_hold (λ x. origin x ≡ p.id.site → own_time x < p.id.time) (λ q. q.id.site ≡ p.id.site → q.id.time < p.id.time) (λ q low. low) log after));
      backed = backed_more log (Prepare p) h.backed (λ id e. absurd (both_ways false refl e));
      versions = λ key. h.versions key ∙ sym (current_other log (Prepare p) key h.backed refl);
      values = λ key. h.values key ∙ sym (value_other log (Prepare p) key h.backed refl);
    }

-- the ended one is out of the pools
module _ (leaves : EndLeavesTheRest) (log : List Record) (pools pools' : List Transaction) (store : List (List ℕ × Held)) (id : TxnId) (h : IsKept log pools store)
    (out : pools' ≡ filter (λ p. not (same_id id p.id)) pools) where
  rise_still : (r : Record) → prepare_in r ≡ None → TimesRise (prepares (log ++ r ∷ []))
  rise_still r none = subst TimesRise (sym (prepares_end log r none)) h.rise

  ended_backed : (r : Record) → ((other : TxnId) → ends other r ≡ same_id id other) → is_some (prepare_of log id) ≡ true
      → (other : TxnId) → ends other r ≡ true → is_some (prepare_of log other) ≡ true
  ended_backed r named some other here = subst (λ x. is_some (prepare_of log x) ≡ true) (same_id_is id other (sym (named other) ∙ here)) some

  pub kept_abort : (time : ℕ) (cause : TxnId) → is_some (prepare_of log id) ≡ true → IsKept (log ++ Abort id time cause ∷ []) pools' store
  kept_abort time cause some = record {
    waiting = out ∙ ap (filter (λ p. not (same_id id p.id))) h.waiting ∙ sym (leaves log (Abort id time cause) refl);
    rise = rise_still (Abort id time cause) refl;
    backed = backed_more log (Abort id time cause) h.backed (ended_backed (Abort id time cause) (λ other. refl) some);
    versions = λ key. h.versions key ∙ sym (current_other log (Abort id time cause) key h.backed refl);
    values = λ key. h.values key ∙ sym (value_other log (Abort id time cause) key h.backed refl);
  }

  pub kept_commit : (store' : List (List ℕ × Held)) (time : ℕ) (p : Transaction) → Some p ≡ find (λ q. same_id q.id id) pools
      → ((key : List ℕ) → version_in store' key ≡ (if contains_text (map (λ w. w.key) p.writes) key then Of id else version_in store key))
      → ((key : List ℕ) → value_in store' key ≡ write_over (value_in store key) (find (λ w. same_text w.key key) p.writes))
      → IsKept (log ++ Commit id time ∷ []) pools' store'
  kept_commit store' time p found versions values = record {
    waiting = out ∙ ap (filter (λ q. not (same_id id q.id))) h.waiting ∙ sym (leaves log (Commit id time) refl);
    rise = rise_still (Commit id time) refl;
    backed = backed_more log (Commit id time) h.backed (ended_backed (Commit id time) (λ other. refl) (ap (λ o. is_some o) named));
    versions = λ key. versions key
        ∙ ap (λ x. if contains_text (map (λ w. w.key) p.writes) key then Of x else version_in store key) (sym same)
        ∙ ap (λ v. if contains_text (map (λ w. w.key) p.writes) key then Of p.id else v) (h.versions key)
        ∙ sym (current_commit log id time p key h.backed named);
    values = λ key. values key ∙ ap (λ v. write_over v (find (λ w. same_text w.key key) p.writes)) (h.values key) ∙ sym (value_commit log id time p key h.backed named);
  }
    where
      looked : cond (not (finished log id)) (prepare_of log id) None ≡ Some p
      looked = sym (open_found log id) ∙ ap (find (λ q. same_id q.id id)) (sym h.waiting) ∙ sym found

      by_test : (b : Bool) (o : Option Transaction) → cond b o None ≡ Some p → o ≡ Some p
      by_test true o e = e
      by_test false o e = absurd (cc)

      named : prepare_of log id ≡ Some p
      named = by_test (not (finished log id)) (prepare_of log id) looked

      same : p.id ≡ id
      same = same_id_is p.id id (found_passes (λ q. same_id q.id id) pools p (sym found))

-- a ledger holds what is unfinished
pub held_open : (log : List Record) (pools : List Transaction) (store : List (List ℕ × Held)) (id : TxnId) (o : Option Transaction) → IsKept log pools store
    → o ≡ find (λ q. same_id q.id id) pools → is_unfinished log id ≡ is_some o
held_open log pools store id o h found =
    any_found (λ q. same_id q.id id) (unfinished log)
    ∙ ap (λ ps. is_some (find (λ q. same_id q.id id) ps)) (sym h.waiting)
    ∙ ap (λ x. is_some x) (sym found)

-- where none is found none is taken out
pub none_out : (id : TxnId) (pools : List Transaction) → find (λ q. same_id q.id id) pools ≡ None → filter (λ p. not (same_id id p.id)) pools ≡ pools
none_out id [] e = refl
none_out id (p ∷ ps) e = by_test (cases_Bool (same_id p.id id)) (cases_Bool (same_id id p.id)) (none_out id ps)
  where
    by_test : (same_id p.id id ≡ true) ⊎ (same_id p.id id ≡ false) → (same_id id p.id ≡ true) ⊎ (same_id id p.id ≡ false)
        → (find (λ q. same_id q.id id) ps ≡ None → filter (λ q. not (same_id id q.id)) ps ≡ ps) → filter (λ q. not (same_id id q.id)) (p ∷ ps) ≡ p ∷ ps
    by_test (inl here) b later =
        let some : Some p ≡ None = rw here at e in
        absurd (cc)
    by_test (inr other) (inl turned) later =
        absurd (both_ways (same_id p.id id) other (subst (λ x. same_id x id ≡ true) (same_id_is id p.id turned) (same_itself id)))
    by_test (inr other) (inr apart) later =
        let rest : find (λ q. same_id q.id id) ps ≡ None = rw other at e in
        rw apart (ap (λ qs. p ∷ qs) (later rest))

-- each of these has a Prepare of its id in the log
each_found : (ps : List Transaction) → All (λ q. is_some (find (λ p. same_id p.id q.id) ps) ≡ true) ps
each_found ps = λ k d low.
    sym (any_found (λ p. same_id p.id (get_or ps k d).id) ps)
    ∙ list_any_at (λ p. same_id p.id (get_or ps k d).id) ps k d low (same_itself (get_or ps k d).id)

pub open_known : (log : List Record) → All (λ q. is_some (prepare_of log q.id) ≡ true) (unfinished log)
open_known log = All-filter (λ p. not (finished log p.id)) (λ q. is_some (prepare_of log q.id) ≡ true) (prepares log) (each_found (prepares log))

pub clashing_known : (site : ℕ) (log : List Record) (p : Transaction) → All (λ id. is_some (prepare_of log id) ≡ true) (clashing site log p)
clashing_known site log p =
    All-map (λ id. is_some (prepare_of log id) ≡ true) (λ q. q.id) (filter (conflict p) (filter (is_own site) (unfinished log)))
    (All-filter (conflict p) (λ q. is_some (prepare_of log q.id) ≡ true) (filter (is_own site) (unfinished log))
    (All-filter (is_own site) (λ q. is_some (prepare_of log q.id) ≡ true) (unfinished log) (open_known log)))

-- what is unfinished has its Prepare
pub held_known : (log : List Record) (id : TxnId) → is_unfinished log id ≡ true → is_some (prepare_of log id) ≡ true
held_known log id h =
    by_test (not (finished log id)) (prepare_of log id)
    (sym (any_found (λ p. same_id p.id id) (unfinished log) ∙ ap (λ o. is_some o) (open_found log id)) ∙ h)
  where
    by_test : (b : Bool) (o : Option Transaction) → is_some (cond b o None) ≡ true → is_some o ≡ true
    by_test true o e = e
    by_test false o e = absurd (cc)

-- ids that are known stay known as a log grows
pub known_grows : (log more : List Record) (ids : List TxnId) → All (λ id. is_some (prepare_of log id) ≡ true) ids → All (λ id. is_some (prepare_of (log ++ more) id) ≡ true) ids
known_grows log more ids h =
    All-weaker (λ id. is_some (prepare_of log id) ≡ true) (λ id. is_some (prepare_of (log ++ more) id) ≡ true)
    (λ id some. ap (λ o. is_some o) (prepare_of_grows log more id some) ∙ some) ids h
