-- Lists with the same elements in one order, and what they make of a key's version.
use Rattle.std.proofs.Common.{◌≡◌, ◌∙◌, ap, refl, sym, subst, ℕ, ◌<◌, true, false, ◌⊎◌, inl, inr, Option, Some, None, List, [], ◌∷◌, fold, filter, filter_map, AllPairs, Contains, arith}
use Rattle.std.specs.List.{cons_option}
use Rattle.std.proofs.lemmas.List.Elements.{All-contains}
use Rattle.std.proofs.lemmas.List.Kept.{AllPairs-cons}
use Rattle.std.proofs.lemmas.Bool.{cases_Bool, cond-false}
use Rattle.helios_model.specs.declared.ids.Version.{Version}
use Rattle.helios_model.specs.declared.ids.Version.TheVariants.{Of}
use Rattle.helios_model.specs.declared.records.Record.{Record}
use Rattle.helios_model.specs.declared.records.CommitEvent.{CommitEvent}
use Rattle.helios_model.specs.Transactions.{writes_key}
use Rattle.helios_model.specs.Log.{origin, own_time, version_after}
use Rattle.helios_model.specs.Sequences.{Mem, Before}
use Rattle.protocol_laws.specs.Shapes.{Rises}
use Rattle.protocol_laws.proofs.Lists.{all_from, contains_nothing, contains_here, contains_later, contains_cases, contains_from_filter_map, pairs_head, pairs_tail}
use Rattle.protocol_laws.proofs.Sequences.{mem_from_contains, contains_from_mem, before_second, filter_yes, filter_no}

-- two lists with the same elements, both in one order, are the same
pub same_ordered : {X : Type 0} (R : X → X → Type 0) → ((x y : X) → R x y → R y x → ⊥) → (xs ys : List X) → ((x : X) → Contains xs x → Contains ys x)
    → ((x : X) → Contains ys x → Contains xs x) → AllPairs R xs → AllPairs R ys → xs ≡ ys
same_ordered R one_way [] [] to from first second = refl
same_ordered R one_way [] (y ∷ ys) to from first second = absurd (contains_nothing y (from y (contains_here y ys)))
same_ordered R one_way (x ∷ xs) [] to from first second = absurd (contains_nothing x (to x (contains_here x xs)))
same_ordered {X = X} R one_way (x ∷ xs) (y ∷ ys) to from first second =
    joined heads (same_ordered R one_way xs ys to_rest from_rest (pairs_tail R x xs first) (pairs_tail R y ys second))
  where
    by_heads : (y ≡ x) ⊎ Contains ys x → (x ≡ y) ⊎ Contains xs y → x ≡ y
    by_heads (inl same) other = sym same
    by_heads (inr behind) (inl same) = same
    by_heads (inr behind) (inr later) =
        absurd (one_way x y (All-contains (R x) xs y (pairs_head R x xs first) later) (All-contains (R y) ys x (pairs_head R y ys second) behind))

    heads : x ≡ y
    heads = by_heads (contains_cases y ys x (to x (contains_here x xs))) (contains_cases x xs y (from y (contains_here y ys)))

    by_to : (z : X) → Contains xs z → (y ≡ z) ⊎ Contains ys z → Contains ys z
    by_to z there (inl same) =
        let after : R x z = All-contains (R x) xs z (pairs_head R x xs first) there in
        let itself : R z z = subst (λ a. R a z) (heads ∙ same) after in
        absurd (one_way z z itself itself)
    by_to z there (inr later) = later

    to_rest : (z : X) → Contains xs z → Contains ys z
    to_rest z there = by_to z there (contains_cases y ys z (to z (contains_later x xs z there)))

    by_from : (z : X) → Contains ys z → (x ≡ z) ⊎ Contains xs z → Contains xs z
    by_from z there (inl same) =
        let after : R y z = All-contains (R y) ys z (pairs_head R y ys second) there in
        let itself : R z z = subst (λ a. R a z) (sym heads ∙ same) after in
        absurd (one_way z z itself itself)
    by_from z there (inr later) = later

    from_rest : (z : X) → Contains ys z → Contains xs z
    from_rest z there = by_from z there (contains_cases x xs z (from z (contains_later y ys z there)))

    joined : x ≡ y → xs ≡ ys → x ∷ xs ≡ y ∷ ys
    joined head tail = λ i. head i ∷ tail i

-- a record does not stand behind itself in a log of which the own times of each origin rise
alone_in : (r c : Record) (rs : List Record) → Rises (r ∷ rs) → r ≡ c → Mem c rs → ⊥
alone_in r c rs h same there =
    let later : own_time r < own_time c =
    All-contains (λ y. origin r ≡ origin y → own_time r < own_time y) rs c (pairs_head (λ x y. origin x ≡ origin y → own_time x < own_time y) r rs h)
    (contains_from_mem rs c there) (ap (λ x. origin x) same) in
    let times : own_time r ≡ own_time c = ap (λ x. own_time x) same in
    omega arith

-- of two records of such a log only one stands before the other
pub before_asym : (a b : Record) (log : List Record) → Rises log → Before a b log → Before b a log → ⊥
before_asym a b [] h first second = first
before_asym a b (r ∷ rs) h (inl here) (inl there) = alone_in r a rs h here.0 there.1
before_asym a b (r ∷ rs) h (inl here) (inr there) = alone_in r a rs h here.0 (before_second b a rs there)
before_asym a b (r ∷ rs) h (inr here) (inl there) = alone_in r b rs h there.0 (before_second a b rs here)
before_asym a b (r ∷ rs) h (inr here) (inr there) =
    before_asym a b rs (pairs_tail (λ x y. origin x ≡ origin y → own_time x < own_time y) r rs h) here there

-- what a list's elements become stands in the order of the elements
pub filter_map_ordered : {X Y : Type 0} (f : X → Option Y) (g : Y → X) → ((x : X) (y : Y) → f x ≡ Some y → g y ≡ x) → (xs : List X)
    → AllPairs (λ a b. Before (g a) (g b) xs) (filter_map f xs)
filter_map_ordered f g back [] = λ i j d less low. absurd (omega arith)
filter_map_ordered {X = X} {Y = Y} f g back (x ∷ xs) = by_option (f x) refl (filter_map_ordered f g back xs)
  where
    later : (y : Y) → Contains (filter_map f xs) y → Mem (g y) xs
    later y there =
        let found = contains_from_filter_map f xs y there in
        mem_from_contains xs (g y) (subst (Contains xs) (sym (back found.0 y found.2)) found.1)

    by_option : (o : Option Y) → f x ≡ o → AllPairs (λ a b. Before (g a) (g b) xs) (filter_map f xs)
        → AllPairs (λ a b. Before (g a) (g b) (x ∷ xs)) (cons_option o (filter_map f xs))
    by_option None e rest = λ i j d less low. inr (rest i j d less low)
    by_option (Some y) e rest =
        AllPairs-cons (λ a b. Before (g a) (g b) (x ∷ xs)) y (filter_map f xs)
        (all_from (λ b. Before (g y) (g b) (x ∷ xs)) (filter_map f xs) (λ b there. inl (sym (back x y e), later b there)))
        (λ i j d less low. inr (rest i j d less low))

-- only the commits that write a key count for its version
pub writers_only : (key : List ℕ) (version : Version) (es : List CommitEvent)
    → fold (version_after key) version es ≡ fold (version_after key) version (filter (λ e. writes_key e.prepare key) es)
writers_only key version [] = refl
writers_only key version (e ∷ es) = by_test (cases_Bool (writes_key e.prepare key)) (writers_only key (version_after key version e) es) (writers_only key version es)
  where
    by_test : (writes_key e.prepare key ≡ true) ⊎ (writes_key e.prepare key ≡ false)
        → fold (version_after key) (version_after key version e) es ≡ fold (version_after key) (version_after key version e) (filter (λ x. writes_key x.prepare key) es)
        → fold (version_after key) version es ≡ fold (version_after key) version (filter (λ x. writes_key x.prepare key) es)
        → fold (version_after key) version (e ∷ es) ≡ fold (version_after key) version (filter (λ x. writes_key x.prepare key) (e ∷ es))
    by_test (inl writes) after same =
        after ∙ ap (fold (version_after key) version) (sym (filter_yes (λ x. writes_key x.prepare key) e es writes))
    by_test (inr unwritten) after same =
        ap (λ v. fold (version_after key) v es) (cond-false (writes_key e.prepare key) (Of e.prepare.id) version unwritten)
        ∙ same ∙ ap (fold (version_after key) version) (sym (filter_no (λ x. writes_key x.prepare key) e es unwritten))
