-- Logs in which each Commit and Abort has its Prepare: one more record, and what is looked up then.
use Rattle.std.proofs.Common.{◌≡◌, ◌∙◌, ap, refl, sym, ℕ, Bool, true, false, not, ◌⊎◌, inl, inr, cond, Option, Some, None, is_some, option_map, List, [], ◌∷◌, ◌++◌, get_or, filter, filter_map, find, fold, All, nat_eq, eq-eqb, eqb-true}
use Rattle.std.specs.List.{cons_option}
use Rattle.std.specs.Option.{option_or}
use Rattle.std.proofs.lemmas.Grind.{fold-append}
use Rattle.std.proofs.lemmas.List.{append-nil}
use Rattle.std.proofs.lemmas.List.Elements.{All-head, All-tail, filter_map-append}
use Rattle.std.proofs.lemmas.List.Folds.{find-append, list_any_at}
use Rattle.std.proofs.lemmas.Bool.{and_parts, both_ways, cases_Bool}
use Rattle.helios_model.specs.declared.ids.TxnId.{TxnId}
use Rattle.helios_model.specs.declared.ids.Version.TheVariants.{Initial}
use Rattle.helios_model.specs.declared.records.Record.{Record}
use Rattle.helios_model.specs.declared.records.Record.TheVariants.{Prepare, Commit, Abort}
use Rattle.helios_model.specs.Ids.{same_id}
use Rattle.helios_model.specs.Transactions.{Transaction}
use Rattle.helios_model.specs.Log.{commit_in, commits, current, current_value, ends, event_at, finished, prepare_in, prepare_of, prepares, unfinished, value_after, version_after}

-- each id that is ended has its Prepare
abbrev pub IsBacked : List Record → Type 0
IsBacked log = (id : TxnId) → finished log id ≡ true → is_some (prepare_of log id) ≡ true

pub same_itself : (id : TxnId) → same_id id id ≡ true
same_itself id = rw (eq-eqb id.site id.site refl, eq-eqb id.time id.time refl) refl

pub same_id_is : (a b : TxnId) → same_id a b ≡ true → a ≡ b
same_id_is a b same =
    let parts = and_parts (nat_eq a.site b.site) (nat_eq a.time b.time) same in
    let sites : a.site ≡ b.site = eqb-true a.site b.site parts.0 in
    let times : a.time ≡ b.time = eqb-true a.time b.time parts.1 in
    λ i. record { site = sites i; time = times i }

-- what is found passes the test
pub found_passes : {X : Type 0} (t : X → Bool) (xs : List X) (x : X) → find t xs ≡ Some x → t x ≡ true
found_passes t [] x e = absurd (cc)
found_passes {X = X} t (y ∷ ys) x e = by_test (cases_Bool (t y)) (found_passes t ys x)
  where
    by_test : (t y ≡ true) ⊎ (t y ≡ false) → (find t ys ≡ Some x → t x ≡ true) → t x ≡ true
    by_test (inl passes) later =
        let here : Some y ≡ Some x = rw passes at e in
        let same : y ≡ x = cc in
        ap t (sym same) ∙ passes
    by_test (inr fails) later =
        let rest : find t ys ≡ Some x = rw fails at e in
        later rest

-- a look-up among those that pass another test, which is the same for all that the look-up is for
pub find_among : {X : Type 0} (t q : X → Bool) (b : Bool) → ((x : X) → t x ≡ true → q x ≡ b) → (xs : List X) → find t (filter q xs) ≡ cond b (find t xs) None
find_among t q true same [] = refl
find_among t q false same [] = refl
find_among {X = X} t q b same (x ∷ xs) = by_test (cases_Bool (t x)) (cases_Bool (q x)) (find_among t q b same xs)
  where
    left_out : (c : Bool) → c ≡ false → (o : Option X) → find t (filter q xs) ≡ cond c o None → None ≡ find t (filter q xs)
    left_out true e o so = absurd (both_ways true e refl)
    left_out false e o so = sym so

    by_test : (t x ≡ true) ⊎ (t x ≡ false) → (q x ≡ true) ⊎ (q x ≡ false) → find t (filter q xs) ≡ cond b (find t xs) None
        → find t (filter q (x ∷ xs)) ≡ cond b (find t (x ∷ xs)) None
    by_test (inl here) (inl kept) so =
        let all : b ≡ true = sym (same x here) ∙ kept in
        rw (kept, all) (rw here refl)
    by_test (inl here) (inr left) so =
        let none : b ≡ false = sym (same x here) ∙ left in
        rw (left, none) (sym (left_out b none (find t xs) so))
    by_test (inr other) (inl kept) so = rw kept (rw other so)
    by_test (inr other) (inr left) so = rw left (rw other so)

-- a look-up among the unfinished ones
pub open_found : (log : List Record) (id : TxnId) → find (λ p. same_id p.id id) (unfinished log) ≡ cond (not (finished log id)) (prepare_of log id) None
open_found log id =
    find_among (λ p. same_id p.id id) (λ p. not (finished log p.id)) (not (finished log id))
    (λ p here. ap (λ x. not (finished log x)) (same_id_is p.id id here)) (prepares log)

pub found_first : {X : Type 0} (o other : Option X) → is_some o ≡ true → option_or o other ≡ o
found_first None other h = cc
found_first (Some x) other h = refl

-- a look-up that finds goes on finding the same
pub prepare_of_grows : (log more : List Record) (id : TxnId) → is_some (prepare_of log id) ≡ true → prepare_of (log ++ more) id ≡ prepare_of log id
prepare_of_grows log more id h =
    ap (find (λ p. same_id p.id id)) (filter_map-append prepare_in log more)
    ∙ find-append (λ p. same_id p.id id) (prepares log) (prepares more)
    ∙ found_first (prepare_of log id) (find (λ p. same_id p.id id) (prepares more)) h

-- an id with no Prepare has no Commit or Abort
pub fresh_unended : (log : List Record) (id : TxnId) → IsBacked log → prepare_of log id ≡ None → finished log id ≡ false
fresh_unended log id backed none = by_test (cases_Bool (finished log id))
  where
    by_test : (finished log id ≡ true) ⊎ (finished log id ≡ false) → finished log id ≡ false
    by_test (inl ended) = absurd (both_ways (is_some (prepare_of log id)) (ap (λ o. is_some o) none) (backed id ended))
    by_test (inr open_one) = open_one

pub commit_in_grown : (log more : List Record) (r : Record) → ((id : TxnId) → ends id r ≡ true → is_some (prepare_of log id) ≡ true) → commit_in (log ++ more) r ≡ commit_in log r
commit_in_grown log more (Prepare p) h = refl
commit_in_grown log more (Commit id time) h = ap (option_map (event_at time)) (prepare_of_grows log more id (h id (same_itself id)))
commit_in_grown log more (Abort id time cause) h = refl

pub filter_map_same : {X Y : Type 0} (f g : X → Option Y) (xs : List X) → All (λ x. f x ≡ g x) xs → filter_map f xs ≡ filter_map g xs
filter_map_same f g [] h = refl
filter_map_same {X = X} {Y = Y} f g (x ∷ xs) h =
    joined (f x) (g x) (filter_map f xs) (filter_map g xs) (All-head (λ y. f y ≡ g y) x xs h) (filter_map_same f g xs (All-tail (λ y. f y ≡ g y) x xs h))
  where
    joined : (a b : Option Y) (cs ds : List Y) → a ≡ b → cs ≡ ds → cons_option a cs ≡ cons_option b ds
    joined a b cs ds p q = λ i. cons_option (p i) (q i)

-- what was committed stays, and the Commits among the new records follow
pub commits_grown : (log more : List Record) → IsBacked log → commits (log ++ more) ≡ commits log ++ filter_map (commit_in (log ++ more)) more
commits_grown log more h =
    filter_map-append (commit_in (log ++ more)) log more
    ∙ ap (λ es. es ++ filter_map (commit_in (log ++ more)) more)
    (filter_map_same (commit_in (log ++ more)) (commit_in log) log
    (λ k d low. commit_in_grown log more (get_or log k d) (λ id here. h id (list_any_at (ends id) log k d low here))))

commits_commit : (log : List Record) (id : TxnId) (time : ℕ) (p : Transaction) → IsBacked log → prepare_of log id ≡ Some p
    → commits (log ++ Commit id time ∷ []) ≡ commits log ++ event_at time p ∷ []
commits_commit log id time p h found =
    let known : is_some (prepare_of log id) ≡ true = ap (λ o. is_some o) found in
    let here : prepare_of (log ++ Commit id time ∷ []) id ≡ Some p = prepare_of_grows log (Commit id time ∷ []) id known ∙ found in
    commits_grown log (Commit id time ∷ []) h ∙ ap (λ o. commits log ++ cons_option (option_map (event_at time) o) []) here

-- a record that is no Commit commits nothing
pub commits_other : (log : List Record) (r : Record) → IsBacked log → commit_in (log ++ r ∷ []) r ≡ None → commits (log ++ r ∷ []) ≡ commits log
commits_other log r h none = commits_grown log (r ∷ []) h ∙ ap (λ o. commits log ++ cons_option o []) none ∙ append-nil (commits log)

pub current_other : (log : List Record) (r : Record) (key : List ℕ) → IsBacked log → commit_in (log ++ r ∷ []) r ≡ None → current (log ++ r ∷ []) key ≡ current log key
current_other log r key h none = ap (fold (version_after key) Initial) (commits_other log r h none)

pub value_other : (log : List Record) (r : Record) (key : List ℕ) → IsBacked log → commit_in (log ++ r ∷ []) r ≡ None → current_value (log ++ r ∷ []) key ≡ current_value log key
value_other log r key h none = ap (fold (value_after key) []) (commits_other log r h none)

pub current_commit : (log : List Record) (id : TxnId) (time : ℕ) (p : Transaction) (key : List ℕ) → IsBacked log → prepare_of log id ≡ Some p
    → current (log ++ Commit id time ∷ []) key ≡ version_after key (current log key) (event_at time p)
current_commit log id time p key h found =
    ap (fold (version_after key) Initial) (commits_commit log id time p h found)
    ∙ fold-append (version_after key) Initial (commits log) (event_at time p ∷ [])

pub value_commit : (log : List Record) (id : TxnId) (time : ℕ) (p : Transaction) (key : List ℕ) → IsBacked log → prepare_of log id ≡ Some p
    → current_value (log ++ Commit id time ∷ []) key ≡ value_after key (current_value log key) (event_at time p)
value_commit log id time p key h found =
    ap (fold (value_after key) []) (commits_commit log id time p h found)
    ∙ fold-append (value_after key) [] (commits log) (event_at time p ∷ [])
