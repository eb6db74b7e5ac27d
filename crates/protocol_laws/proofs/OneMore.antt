use Rattle.std.proofs.Common.{◌≡◌, ◌∙◌, ap, refl, sym, subst, true, false, not, ◌&&◌, ◌||◌, Option, Some, None, is_some, List, [], ◌∷◌, ◌++◌, filter, find, Contains}
use Rattle.std.specs.List.{cons_option}
use Rattle.std.specs.Option.{option_or}
use Rattle.std.proofs.lemmas.List.{append-nil}
use Rattle.std.proofs.lemmas.List.Elements.{filter_map-append, filter-append, filter_agree}
use Rattle.std.proofs.lemmas.List.Folds.{list_any-append, find-append}
use Rattle.std.proofs.lemmas.Bool.{or_left, or_parts, not-true, not_from_false}
use Rattle.helios_model.specs.declared.ids.TxnId.{TxnId}
use Rattle.helios_model.specs.declared.records.Record.{Record}
use Rattle.helios_model.specs.declared.records.Record.TheVariants.{Prepare, Commit, Abort}
use Rattle.helios_model.specs.Ids.{same_id}
use Rattle.helios_model.specs.Transactions.{Transaction}
use Rattle.helios_model.specs.Log.{ends, finished, prepare_in, prepares, prepare_of, unfinished}
use Rattle.protocol_laws.proofs.Lists.{or_false, not_or, filter_twice, contains_filter, contains_from_filter, contains_filter_map, contains_from_filter_map}

pub finished_one_more : (log : List Record) (r : Record) (id : TxnId) → finished (log ++ r ∷ []) id ≡ (finished log id || ends id r)
finished_one_more log r id = list_any-append (ends id) log (r ∷ []) ∙ ap (λ b. finished log id || b) (or_false (ends id r))

pub finished_grown : (log more : List Record) (id : TxnId) → finished log id ≡ true → finished (log ++ more) id ≡ true
finished_grown log more id h = list_any-append (ends id) log more ∙ or_left (finished log id) (finished more id) h

pub unfinished_before : (log more : List Record) (id : TxnId) → finished (log ++ more) id ≡ false → finished log id ≡ false
unfinished_before log more id h = (or_parts (finished log id) (finished more id) (sym (list_any-append (ends id) log more) ∙ h)).0

pub prepares_append : (log more : List Record) → prepares (log ++ more) ≡ prepares log ++ prepares more
prepares_append log more = filter_map-append prepare_in log more

pub prepares_end : (log : List Record) (r : Record) → prepare_in r ≡ None → prepares (log ++ r ∷ []) ≡ prepares log
prepares_end log r e =
    let nothing : prepares (r ∷ []) ≡ [] = ap (λ o. cons_option o []) e in
    prepares_append log (r ∷ []) ∙ ap (λ ps. prepares log ++ ps) nothing ∙ append-nil (prepares log)

pub prepares_prepare : (log : List Record) (p : Transaction) → prepares (log ++ Prepare p ∷ []) ≡ prepares log ++ p ∷ []
prepares_prepare log p = prepares_append log (Prepare p ∷ [])

found_first : {X : Type 0} (o other : Option X) → is_some o ≡ true → option_or o other ≡ o
found_first None other h = cc
found_first (Some x) other h = refl

-- a look-up that finds goes on finding the same
pub prepare_of_grows : (log more : List Record) (id : TxnId) → is_some (prepare_of log id) ≡ true → prepare_of (log ++ more) id ≡ prepare_of log id
prepare_of_grows log more id h =
    ap (find (λ p. same_id p.id id)) (prepares_append log more)
    ∙ find-append (λ p. same_id p.id id) (prepares log) (prepares more)
    ∙ found_first (prepare_of log id) (find (λ p. same_id p.id id) (prepares more)) h

-- a record that is no Prepare ends what it ends
pub unfinished_end : (log : List Record) (r : Record) → prepare_in r ≡ None
    → unfinished (log ++ r ∷ []) ≡ filter (λ p. not (ends p.id r)) (unfinished log)
unfinished_end log r e =
    ap (filter (λ p. not (finished (log ++ r ∷ []) p.id))) (prepares_end log r e)
    ∙ filter_agree (λ p. not (finished (log ++ r ∷ []) p.id)) (λ p. not (finished log p.id) && not (ends p.id r))
    (λ p. ap not (finished_one_more log r p.id) ∙ not_or (finished log p.id) (ends p.id r)) (prepares log)
    ∙ sym (filter_twice (λ p. not (ends p.id r)) (λ p. not (finished log p.id)) (prepares log))

-- a Prepare with no Commit or Abort is unfinished
pub unfinished_prepare : (log : List Record) (p : Transaction) → finished log p.id ≡ false
    → unfinished (log ++ Prepare p ∷ []) ≡ unfinished log ++ p ∷ []
unfinished_prepare log p fresh =
    let kept : filter (λ q. not (finished log q.id)) (p ∷ []) ≡ p ∷ [] = rw fresh refl in
    ap (filter (λ q. not (finished (log ++ Prepare p ∷ []) q.id))) (prepares_prepare log p)
    ∙ filter_agree (λ q. not (finished (log ++ Prepare p ∷ []) q.id)) (λ q. not (finished log q.id))
    (λ q. ap not (finished_one_more log (Prepare p) q.id ∙ or_false (finished log q.id))) (prepares log ++ p ∷ [])
    ∙ filter-append (λ q. not (finished log q.id)) (prepares log) (p ∷ [])
    ∙ ap (λ ps. unfinished log ++ ps) kept

pub unfinished_is : (log : List Record) (p : Transaction) → Contains (unfinished log) p → Contains (prepares log) p × (finished log p.id ≡ false)
unfinished_is log p h =
    let found = contains_from_filter (λ q. not (finished log q.id)) (prepares log) p h in
    (found.0, not-true (finished log p.id) found.1)

pub unfinished_has : (log : List Record) (p : Transaction) → Contains (prepares log) p → finished log p.id ≡ false → Contains (unfinished log) p
unfinished_has log p h fresh = contains_filter (λ q. not (finished log q.id)) (prepares log) p h (not_from_false (finished log p.id) fresh)

-- a Prepare stands where the list of Prepares has it
pub prepare_stands : (log : List Record) (p : Transaction) → Contains (prepares log) p → Contains log (Prepare p)
prepare_stands log p h = by_record found.0 found.1 found.2
  where
    found : (r : Record) × Contains log r × (prepare_in r ≡ Some p)
    found = contains_from_filter_map prepare_in log p h

    by_record : (r : Record) → Contains log r → prepare_in r ≡ Some p → Contains log (Prepare p)
    by_record (Prepare q) there e = let same : q ≡ p = cc in subst (λ x. Contains log (Prepare x)) same there
    by_record (Commit id time) there e = absurd (cc)
    by_record (Abort id time cause) there e = absurd (cc)

pub prepare_listed : (log : List Record) (p : Transaction) → Contains log (Prepare p) → Contains (prepares log) p
prepare_listed log p h = contains_filter_map prepare_in log (Prepare p) p h refl
