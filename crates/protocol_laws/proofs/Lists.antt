use Rattle.std.proofs.Common.{◌≡◌, ◌∙◌, ap, refl, sym, subst, suc, ◌<◌, Bool, true, false, not, ◌&&◌, ◌||◌, ◌⊎◌, inl, inr, Option, Some, None, is_some, List, [], ◌∷◌, ◌++◌, get_or, map, filter, filter_map, find, All, AllPairs, Contains, arith}
use Rattle.std.specs.List.{list_any, cons_option}
use Rattle.std.proofs.lemmas.List.{get_or_default}
use Rattle.std.proofs.lemmas.List.Elements.{All-nil, All-cons, All-head, All-tail, All-contains_itself, All-contains, Contains-append_cases, Contains-push_cases, Contains-append_right}
use Rattle.std.proofs.lemmas.List.Folds.{list_any_at, Any-from_list_any}
use Rattle.std.proofs.lemmas.Bool.{cases_Bool, both_ways, or_parts, cases_order}

pub or_false : (b : Bool) → (b || false) ≡ b
or_false true = refl
or_false false = refl

pub not_or : (a b : Bool) → not (a || b) ≡ (not a && not b)
not_or true b = refl
not_or false b = refl

pub contains_here : {X : Type 0} (x : X) (xs : List X) → Contains (x ∷ xs) x
contains_here x xs = (0, omega arith, refl)

pub contains_later : {X : Type 0} (y : X) (xs : List X) (x : X) → Contains xs x → Contains (y ∷ xs) x
contains_later y xs x h = Contains-append_right (y ∷ []) xs x h

pub contains_nothing : {X : Type 0} (x : X) → Contains [] x → ⊥
contains_nothing x h = let low : h.0 < 0 = h.1 in omega arith

pub contains_cases : {X : Type 0} (y : X) (xs : List X) (x : X) → Contains (y ∷ xs) x → (y ≡ x) ⊎ Contains xs x
contains_cases {X = X} y xs x h = by_part (Contains-append_cases (y ∷ []) xs x h)
  where
    by_end : Contains [] x ⊎ (y ≡ x) → (y ≡ x) ⊎ Contains xs x
    by_end (inl none) = absurd (contains_nothing x none)
    by_end (inr same) = inl same

    by_part : Contains (y ∷ []) x ⊎ Contains xs x → (y ≡ x) ⊎ Contains xs x
    by_part (inl one) = by_end (Contains-push_cases [] y x one)
    by_part (inr more) = inr more

pub contains_map : {X Y : Type 0} (f : X → Y) (xs : List X) (x : X) → Contains xs x → Contains (map f xs) (f x)
contains_map f [] x h = absurd (contains_nothing x h)
contains_map {X = X} f (y ∷ ys) x h = by_case (contains_cases y ys x h) (contains_map f ys x)
  where
    by_case : (y ≡ x) ⊎ Contains ys x → (Contains ys x → Contains (map f ys) (f x)) → Contains (map f (y ∷ ys)) (f x)
    by_case (inl same) later = subst (λ z. Contains (f y ∷ map f ys) (f z)) same (contains_here (f y) (map f ys))
    by_case (inr more) later = contains_later (f y) (map f ys) (f x) (later more)

pub map_twice : {X Y Z : Type 0} (g : Y → Z) (f : X → Y) (xs : List X) → map g (map f xs) ≡ map (λ x. g (f x)) xs
map_twice g f [] = refl
map_twice g f (x ∷ xs) = ap (λ ys. g (f x) ∷ ys) (map_twice g f xs)

-- what every element has, shown of each
pub all_from : {X : Type 0} (P : X → Type 0) (xs : List X) → ((x : X) → Contains xs x → P x) → All P xs
all_from P xs each = λ k d low. each (get_or xs k d) (All-contains_itself xs k d low)

pub none_of : {X : Type 0} (p : X → Bool) (xs : List X) → list_any p xs ≡ false → All (λ x. p x ≡ false) xs
none_of p [] h = All-nil (λ x. p x ≡ false)
none_of p (x ∷ xs) h =
    let parts = or_parts (p x) (list_any p xs) h in
    All-cons (λ x. p x ≡ false) x xs parts.0 (none_of p xs parts.1)

pub any_from : {X : Type 0} (p : X → Bool) (xs : List X) (x : X) → Contains xs x → p x ≡ true → list_any p xs ≡ true
any_from p xs x h passes = list_any_at p xs h.0 x h.1 (ap p h.2 ∙ passes)

pub some_of : {X : Type 0} (p : X → Bool) (xs : List X) → list_any p xs ≡ true → (x : X) × Contains xs x × (p x ≡ true)
some_of p xs h =
    let found = Any-from_list_any p xs h in
    (found.1, (found.0, found.2, found.3), found.4)

pub find_passes : {X : Type 0} (p : X → Bool) (xs : List X) (x : X) → find p xs ≡ Some x → Contains xs x × (p x ≡ true)
find_passes p [] x e = absurd (cc)
find_passes {X = X} p (y ∷ ys) x e = by_test (cases_Bool (p y)) (find_passes p ys x)
  where
    by_test : (p y ≡ true) ⊎ (p y ≡ false) → (find p ys ≡ Some x → Contains ys x × (p x ≡ true)) → Contains (y ∷ ys) x × (p x ≡ true)
    by_test (inl passes) later =
        let here : Some y ≡ Some x = rw passes at e in
        let same : y ≡ x = cc in
        (subst (λ z. Contains (y ∷ ys) z) same (contains_here y ys), ap p (sym same) ∙ passes)
    by_test (inr fails) later =
        let rest : find p ys ≡ Some x = rw fails at e in
        let found = later rest in
        (contains_later y ys x found.0, found.1)

pub find_none : {X : Type 0} (p : X → Bool) (xs : List X) → find p xs ≡ None → All (λ x. p x ≡ false) xs
find_none p [] e = All-nil (λ x. p x ≡ false)
find_none {X = X} p (y ∷ ys) e = by_test (cases_Bool (p y)) (find_none p ys)
  where
    by_test : (p y ≡ true) ⊎ (p y ≡ false) → (find p ys ≡ None → All (λ x. p x ≡ false) ys) → All (λ x. p x ≡ false) (y ∷ ys)
    by_test (inl passes) later =
        let here : Some y ≡ None = rw passes at e in
        absurd (cc)
    by_test (inr fails) later =
        let rest : find p ys ≡ None = rw fails at e in
        All-cons (λ x. p x ≡ false) y ys fails (later rest)

-- a look-up finds where something passes
pub find_finds : {X : Type 0} (p : X → Bool) (xs : List X) (x : X) → Contains xs x → p x ≡ true → is_some (find p xs) ≡ true
find_finds {X = X} p xs x h passes = by_find (find p xs) refl
  where
    by_find : (o : Option X) → find p xs ≡ o → is_some o ≡ true
    by_find None e = absurd (both_ways (p x) (All-contains (λ y. p y ≡ false) xs x (find_none p xs e) h) passes)
    by_find (Some y) e = refl

pub contains_filter : {X : Type 0} (p : X → Bool) (xs : List X) (x : X) → Contains xs x → p x ≡ true → Contains (filter p xs) x
contains_filter p [] x h passes = absurd (contains_nothing x h)
contains_filter {X = X} p (y ∷ ys) x h passes = by_test (cases_Bool (p y)) (contains_cases y ys x h) (λ k. contains_filter p ys x k passes)
  where
    by_test : (p y ≡ true) ⊎ (p y ≡ false) → (y ≡ x) ⊎ Contains ys x → (Contains ys x → Contains (filter p ys) x) → Contains (filter p (y ∷ ys)) x
    by_test (inl kept) (inl same) later = rw kept (subst (λ z. Contains (y ∷ filter p ys) z) same (contains_here y (filter p ys)))
    by_test (inl kept) (inr more) later = rw kept (contains_later y (filter p ys) x (later more))
    by_test (inr left) (inl same) later = absurd (both_ways (p y) left (ap p same ∙ passes))
    by_test (inr left) (inr more) later = rw left (later more)

pub contains_from_filter : {X : Type 0} (p : X → Bool) (xs : List X) (x : X) → Contains (filter p xs) x → Contains xs x × (p x ≡ true)
contains_from_filter p [] x h = absurd (contains_nothing x h)
contains_from_filter {X = X} p (y ∷ ys) x h = by_test (cases_Bool (p y)) (contains_from_filter p ys x)
  where
    by_case : p y ≡ true → (y ≡ x) ⊎ Contains (filter p ys) x → (Contains (filter p ys) x → Contains ys x × (p x ≡ true)) → Contains (y ∷ ys) x × (p x ≡ true)
    by_case kept (inl same) later = (subst (λ z. Contains (y ∷ ys) z) same (contains_here y ys), ap p (sym same) ∙ kept)
    by_case kept (inr more) later = let found = later more in (contains_later y ys x found.0, found.1)

    by_test : (p y ≡ true) ⊎ (p y ≡ false) → (Contains (filter p ys) x → Contains ys x × (p x ≡ true)) → Contains (y ∷ ys) x × (p x ≡ true)
    by_test (inl kept) later =
        let there : Contains (y ∷ filter p ys) x = rw kept at h in
        by_case kept (contains_cases y (filter p ys) x there) later
    by_test (inr left) later =
        let there : Contains (filter p ys) x = rw left at h in
        let found = later there in
        (contains_later y ys x found.0, found.1)

pub contains_filter_map : {X Y : Type 0} (h : X → Option Y) (xs : List X) (x : X) (y : Y) → Contains xs x → h x ≡ Some y → Contains (filter_map h xs) y
contains_filter_map h [] x y there gives = absurd (contains_nothing x there)
contains_filter_map {X = X} {Y = Y} h (a ∷ rest) x y there gives = by_case (contains_cases a rest x there) (λ k. contains_filter_map h rest x y k gives)
  where
    by_option : (o : Option Y) → Contains (filter_map h rest) y → Contains (cons_option o (filter_map h rest)) y
    by_option None later = later
    by_option (Some b) later = contains_later b (filter_map h rest) y later

    by_case : (a ≡ x) ⊎ Contains rest x → (Contains rest x → Contains (filter_map h rest) y) → Contains (filter_map h (a ∷ rest)) y
    by_case (inl same) later =
        let here : h a ≡ Some y = ap h same ∙ gives in
        rw here (contains_here y (filter_map h rest))
    by_case (inr more) later = by_option (h a) (later more)

pub contains_from_filter_map : {X Y : Type 0} (h : X → Option Y) (xs : List X) (y : Y) → Contains (filter_map h xs) y → (x : X) × Contains xs x × (h x ≡ Some y)
contains_from_filter_map h [] y there = absurd (contains_nothing y there)
contains_from_filter_map {X = X} {Y = Y} h (a ∷ rest) y there = by_option (h a) refl there (contains_from_filter_map h rest y)
  where
    after : (x : X) × Contains rest x × (h x ≡ Some y) → (x : X) × Contains (a ∷ rest) x × (h x ≡ Some y)
    after f = (f.0, contains_later a rest f.0 f.1, f.2)

    by_case : (b : Y) → h a ≡ Some b → (b ≡ y) ⊎ Contains (filter_map h rest) y → (Contains (filter_map h rest) y → (x : X) × Contains rest x × (h x ≡ Some y))
        → (x : X) × Contains (a ∷ rest) x × (h x ≡ Some y)
    by_case b e (inl same) later = (a, contains_here a rest, e ∙ ap Some same)
    by_case b e (inr more) later = after (later more)

    by_option : (o : Option Y) → h a ≡ o → Contains (cons_option o (filter_map h rest)) y → (Contains (filter_map h rest) y → (x : X) × Contains rest x × (h x ≡ Some y))
        → (x : X) × Contains (a ∷ rest) x × (h x ≡ Some y)
    by_option None e here later = after (later here)
    by_option (Some b) e here later = by_case b e (contains_cases b (filter_map h rest) y here) later

pub filter_twice : {X : Type 0} (p q : X → Bool) (xs : List X) → filter p (filter q xs) ≡ filter (λ x. q x && p x) xs
filter_twice p q [] = refl
filter_twice {X = X} p q (x ∷ xs) = by_test (cases_Bool (q x)) (cases_Bool (p x)) (filter_twice p q xs)
  where
    by_test : (q x ≡ true) ⊎ (q x ≡ false) → (p x ≡ true) ⊎ (p x ≡ false) → filter p (filter q xs) ≡ filter (λ y. q y && p y) xs
        → filter p (filter q (x ∷ xs)) ≡ filter (λ y. q y && p y) (x ∷ xs)
    by_test (inl a) (inl b) same = simp (a, b) (ap (λ ys. x ∷ ys) same)
    by_test (inl a) (inr b) same = simp (a, b) same
    by_test (inr a) b same = simp a same

pub keeps_all : {X : Type 0} (p : X → Bool) (xs : List X) → All (λ x. p x ≡ true) xs → filter p xs ≡ xs
keeps_all p [] h = refl
keeps_all p (x ∷ xs) h =
    let here : p x ≡ true = All-head (λ y. p y ≡ true) x xs h in
    rw here (ap (λ ys. x ∷ ys) (keeps_all p xs (All-tail (λ y. p y ≡ true) x xs h)))

pub pairs_head : {X : Type 0} (R : X → X → Type 0) (x : X) (xs : List X) → AllPairs R (x ∷ xs) → All (R x) xs
pairs_head R x xs h k d low = h 0 (suc k) d (omega arith) (omega arith)

pub pairs_tail : {X : Type 0} (R : X → X → Type 0) (x : X) (xs : List X) → AllPairs R (x ∷ xs) → AllPairs R xs
pairs_tail R x xs h i j d low high = h (suc i) (suc j) d (omega arith) (omega arith)

-- two elements are one, or the one stands before the other
pub pairs_cases : {X : Type 0} (R : X → X → Type 0) (xs : List X) (x y : X) → AllPairs R xs → Contains xs x → Contains xs y
    → (x ≡ y) ⊎ (R x y ⊎ R y x)
pairs_cases {X = X} R xs x y h a b = by_order (cases_order a.0 b.0)
  where
    at_y : (d : X) → get_or xs b.0 d ≡ y
    at_y d = get_or_default xs b.0 d y b.1 ∙ b.2

    at_x : (d : X) → get_or xs a.0 d ≡ x
    at_x d = get_or_default xs a.0 d x a.1 ∙ a.2

    by_order : (a.0 ≡ b.0) ⊎ ((a.0 < b.0) ⊎ (b.0 < a.0)) → (x ≡ y) ⊎ (R x y ⊎ R y x)
    by_order (inl same) = inl (sym (at_x x) ∙ ap (λ k. get_or xs k x) same ∙ at_y x)
    by_order (inr (inl less)) = inr (inl (subst (λ z. R z y) (at_x x) (subst (λ z. R (get_or xs a.0 x) z) (at_y x) (h a.0 b.0 x less b.1))))
    by_order (inr (inr more)) = inr (inr (subst (λ z. R z x) (at_y x) (subst (λ z. R (get_or xs b.0 x) z) (at_x x) (h b.0 a.0 x more a.1))))

-- where a list that is one element longer is cut: at the new element, or before it
pub split_last : {X : Type 0} (log : List X) (c : X) (before : List X) (r : X) (after : List X) → log ++ c ∷ [] ≡ before ++ r ∷ after
    → ((log ≡ before) × (c ≡ r) × (after ≡ [])) ⊎ ((rest : List X) × (after ≡ rest ++ c ∷ []) × (log ≡ before ++ r ∷ rest))
split_last [] c [] r after e = inl (refl, cc, cc)
split_last [] c (b ∷ []) r after e = absurd (cc)
split_last [] c (b ∷ b2 ∷ bs) r after e = absurd (cc)
split_last (l ∷ log) c [] r after e =
    let head : l ≡ r = cc in
    let tail : log ++ c ∷ [] ≡ after = cc in
    inr (log, sym tail, ap (λ x. x ∷ log) head)
split_last {X = X} (l ∷ log) c (b ∷ bs) r after e =
    let head : l ≡ b = cc in
    let tail : log ++ c ∷ [] ≡ bs ++ r ∷ after = cc in
    by_rest head (split_last log c bs r after tail)
  where
    by_rest : l ≡ b → ((log ≡ bs) × (c ≡ r) × (after ≡ [])) ⊎ ((rest : List X) × (after ≡ rest ++ c ∷ []) × (log ≡ bs ++ r ∷ rest))
        → ((l ∷ log ≡ b ∷ bs) × (c ≡ r) × (after ≡ [])) ⊎ ((rest : List X) × (after ≡ rest ++ c ∷ []) × (l ∷ log ≡ (b ∷ bs) ++ r ∷ rest))
    by_rest head (inl (a, same, nothing)) = inl (cc, same, nothing)
    by_rest head (inr (rest, a, same)) = inr (rest, a, cc)
