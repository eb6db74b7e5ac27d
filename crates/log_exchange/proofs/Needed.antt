use Rattle.std.proofs.Common.{◌≡◌, ◌∙◌, ap, sym, refl, ℕ, ◌+◌, ◌*◌, ◌<◌, ◌≤◌, List, [], ◌∷◌, Bool, true, false, cond, not, ◌&&◌, ◌||◌, All, filter, length, map, take, drop, nat_le, nat_lt, arith, zero-add, get_or, subst}
use Rattle.std.specs.List.{list_all, list_any, range_with_len}
use Rattle.std.proofs.lemmas.Bool.Decides.{nat_tests}
use Rattle.std.proofs.lemmas.List.Elements.{All-head, All-tail, filter-append}
use Rattle.std.proofs.lemmas.List.Folds.{list_any_at}
use Rattle.std.proofs.lemmas.List.FromFn.{length-range_with_len, get_or-range_with_len}
use Rattle.helios_model.specs.declared.records.Record.{Record}
use Rattle.helios_model.specs.Grid.{at}
use Rattle.helios_model.specs.Limits.{most_records}
use Rattle.helios_model.specs.Log.{origin, own_time}
use Rattle.helios_model.specs.Exchange.{cover_at, due, is_due}
use Rattle.log_exchange.specs.Kept.{AreOf, is_needed, needed}
use Rattle.log_exchange.specs.Laws.{FewerAreNeeded, IsNoLower, KeptServesLater, NeededAppends, NeededStays, NeededTellsCover, NeededTellsRecords, NeedSame}

-- a filter behind a wider one
pub filter_through : {X : Type 0} (p q : X → Bool) (xs : List X) → All (λ x. p x ≡ true → q x ≡ true) xs → filter p (filter q xs) ≡ filter p xs
filter_through p q [] wider = refl
filter_through p q (x ∷ xs) wider =
    by_case p q x xs _ _ refl refl (All-head (λ x. p x ≡ true → q x ≡ true) x xs wider)
    (filter_through p q xs (All-tail (λ x. p x ≡ true → q x ≡ true) x xs wider))
  where
    by_case : {X : Type 0} (p q : X → Bool) (x : X) (xs : List X) (a b : Bool) → p x ≡ a → q x ≡ b → (p x ≡ true → q x ≡ true)
        → filter p (filter q xs) ≡ filter p xs → filter p (filter q (x ∷ xs)) ≡ filter p (x ∷ xs)
    by_case p q x xs a true is kept wider rest = rw kept (ap (λ ys. cond (p x) (x ∷ ys) ys) rest)
    by_case p q x xs true false is kept wider rest = absurd (let e = wider is in cc)
    by_case p q x xs false false is kept wider rest = rw kept (rw is rest)

-- two tests that agree keep the same
pub filter_agree : {X : Type 0} (p q : X → Bool) (xs : List X) → All (λ x. p x ≡ q x) xs → filter p xs ≡ filter q xs
filter_agree p q [] agree = refl
filter_agree p q (x ∷ xs) agree =
    rw (All-head (λ x. p x ≡ q x) x xs agree) (ap (λ ys. cond (q x) (x ∷ ys) ys) (filter_agree p q xs (All-tail (λ x. p x ≡ q x) x xs agree)))

pub any_wider : {X : Type 0} (p q : X → Bool) (xs : List X) → All (λ x. p x ≡ true → q x ≡ true) xs → list_any p xs ≡ true → list_any q xs ≡ true
any_wider p q [] wider some = some
any_wider p q (x ∷ xs) wider some =
    by_case (p x) (q x) (list_any p xs) (list_any q xs) (All-head (λ x. p x ≡ true → q x ≡ true) x xs wider)
    (any_wider p q xs (All-tail (λ x. p x ≡ true → q x ≡ true) x xs wider)) some
  where
    by_case : (a b c d : Bool) → (a ≡ true → b ≡ true) → (c ≡ true → d ≡ true) → (a || c) ≡ true → (b || d) ≡ true
    by_case true b c d first rest some = let e = first refl in rw e refl
    by_case false true c d first rest some = refl
    by_case false false c d first rest some = rest some

-- what is due to a site is needed
pub due_is_needed : (count : ℕ) (table : List ℕ) (to : ℕ) (r : Record) → to < count → is_due (at count table to) r ≡ true → is_needed count table r ≡ true
due_is_needed count table to r low is =
    let inside : to < length (range_with_len 0 count) = subst (λ n. to < n) (sym (length-range_with_len 0 count)) low in
    let here : get_or (range_with_len 0 count) to 0 ≡ to = get_or-range_with_len 0 count to 0 low ∙ zero-add to in
    list_any_at (λ j. is_due (at count table j) r) (range_with_len 0 count) to 0 inside (subst (λ j. is_due (at count table j) r ≡ true) (sym here) is)

lower_time : (known later time : ℕ) → known ≤ later → nat_lt later time ≡ true → nat_lt known time ≡ true
lower_time known later time lower is = grind (arith, nat_tests)

-- what a later table needs was needed before
pub needed_before : (count : ℕ) (table later : List ℕ) (r : Record) → IsNoLower table later → is_needed count later r ≡ true → is_needed count table r ≡ true
needed_before count table later r higher =
    any_wider (λ j. is_due (at count later j) r) (λ j. is_due (at count table j) r) (range_with_len 0 count)
    (λ k d inside. lower_time (at count table (get_or (range_with_len 0 count) k d) (origin r)) (at count later (get_or (range_with_len 0 count) k d) (origin r)) (own_time r)
    (higher (get_or (range_with_len 0 count) k d * count + origin r)))

pub needed_stays : NeededStays
needed_stays count table log = filter_through (is_needed count table) (is_needed count table) log (λ k d low is. is)

due_of_needed : (count : ℕ) (table : List ℕ) (to : ℕ) (log : List Record) → to < count → due (at count table to) (needed count table log) ≡ due (at count table to) log
due_of_needed count table to log low =
    filter_through (is_due (at count table to)) (is_needed count table) log (λ k d inside is. due_is_needed count table to (get_or log k d) low is)

due_same : (count : ℕ) (table : List ℕ) (to : ℕ) (kept log : List Record) → to < count → NeedSame count table kept log
    → due (at count table to) kept ≡ due (at count table to) log
due_same count table to kept log low same =
    sym (due_of_needed count table to kept low) ∙ ap (due (at count table to)) same ∙ due_of_needed count table to log low

pub needed_tells_records : NeededTellsRecords
needed_tells_records count table to kept log low same = ap (take most_records) (due_same count table to kept log low same)

pub needed_tells_cover : NeededTellsCover
needed_tells_cover count table to own kept log low same =
    ap (λ rs. map (cover_at own (drop most_records rs)) (range_with_len 0 count)) (due_same count table to kept log low same)

pub fewer_are_needed : FewerAreNeeded
fewer_are_needed count table later log higher =
    filter_through (is_needed count later) (is_needed count table) log (λ k d inside. needed_before count table later (get_or log k d) higher)

pub kept_serves_later : KeptServesLater
kept_serves_later count table later kept log higher same =
    sym (fewer_are_needed count table later kept higher) ∙ ap (needed count later) same ∙ fewer_are_needed count table later log higher

pub needed_appends : NeededAppends
needed_appends count table front back = filter-append (is_needed count table) front back

-- not every site knows it: some site needs it
pub not_all_know : (count : ℕ) (table : List ℕ) (r : Record) (js : List ℕ)
    → not (list_all (λ j. nat_le (own_time r) (at count table j (origin r))) js) ≡ list_any (λ j. is_due (at count table j) r) js
not_all_know count table r [] = refl
not_all_know count table r (j ∷ js) =
    by_case (own_time r) (at count table j (origin r)) _ _ refl (not_all_know count table r js)
  where
    by_case : (time known : ℕ) (rest needs : Bool) {b : Bool} → nat_le time known ≡ b → not rest ≡ needs → not (nat_le time known && rest) ≡ (nat_lt known time || needs)
    by_case time known rest needs {b = true} is others = let no : nat_lt known time ≡ false = grind (arith, nat_tests) in rw (is, no) others
    by_case time known rest needs {b = false} is others = let yes : nat_lt known time ≡ true = grind (arith, nat_tests) in rw (is, yes) refl

-- of records of the sites nothing else is kept
pub kept_is_needed : (count : ℕ) (table : List ℕ) (log : List Record) → AreOf count log
    → filter (λ r. nat_le count (origin r) || is_needed count table r) log ≡ needed count table log
kept_is_needed count table log sites =
    filter_agree (λ r. nat_le count (origin r) || is_needed count table r) (is_needed count table) log
    (λ k d low. let inside = sites k d low in let no : nat_le count (origin (get_or log k d)) ≡ false = grind (arith, nat_tests) in rw no refl)

pub kept_by : (count n : ℕ) (table : List ℕ) (r : Record) (place time : ℕ) (known : Bool) → n ≡ count → place ≡ origin r → time ≡ own_time r → origin r < count
    → known ≡ list_all (λ j. nat_le time (at n table j place)) (range_with_len 0 n) → not known ≡ (nat_le count (origin r) || is_needed count table r)
kept_by count n table r place time known here from at_time low is =
    ap not is
    ∙ ap (λ m. not (list_all (λ j. nat_le time (at m table j place)) (range_with_len 0 m))) here
    ∙ ap (λ o. not (list_all (λ j. nat_le time (at count table j o)) (range_with_len 0 count))) from
    ∙ ap (λ t. not (list_all (λ j. nat_le t (at count table j (origin r))) (range_with_len 0 count))) at_time
    ∙ not_all_know count table r (range_with_len 0 count)
    ∙ (let no : nat_le count (origin r) ≡ false = grind (arith, nat_tests) in rw no refl)
