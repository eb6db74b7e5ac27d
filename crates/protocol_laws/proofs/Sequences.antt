use Rattle.std.proofs.Common.{◌≡◌, ◌∙◌, ap, refl, sym, subst, Bool, true, false, ◌&&◌, ◌⊎◌, inl, inr, Some, None, List, [], ◌∷◌, ◌++◌, map, filter, find, Contains}
use Rattle.std.proofs.lemmas.List.Elements.{filter_agree}
use Rattle.std.proofs.lemmas.Bool.{cases_Bool, cond_both, cond-true, cond-false}
use Rattle.helios_model.specs.Sequences.{Mem, Before}
use Rattle.protocol_laws.proofs.Lists.{contains_nothing, contains_here, contains_later, contains_cases, filter_twice}

pub mem_left : {A : Type 0} (a : A) (xs ys : List A) → Mem a xs → Mem a (xs ++ ys)
mem_left a [] ys h = absurd h
mem_left a (x ∷ xs) ys (inl same) = inl same
mem_left a (x ∷ xs) ys (inr later) = inr (mem_left a xs ys later)

pub mem_right : {A : Type 0} (a : A) (xs ys : List A) → Mem a ys → Mem a (xs ++ ys)
mem_right a [] ys h = h
mem_right a (x ∷ xs) ys h = inr (mem_right a xs ys h)

pub mem_cases : {A : Type 0} (a : A) (xs ys : List A) → Mem a (xs ++ ys) → Mem a xs ⊎ Mem a ys
mem_cases a [] ys h = inr h
mem_cases a (x ∷ xs) ys (inl same) = inl (inl same)
mem_cases a (x ∷ xs) ys (inr later) = by_part (mem_cases a xs ys later)
  where
    by_part : Mem a xs ⊎ Mem a ys → Mem a (x ∷ xs) ⊎ Mem a ys
    by_part (inl here) = inl (inr here)
    by_part (inr there) = inr there

pub mem_from_contains : {A : Type 0} (xs : List A) (a : A) → Contains xs a → Mem a xs
mem_from_contains [] a h = contains_nothing a h
mem_from_contains (x ∷ xs) a h = by_case (contains_cases x xs a h) (mem_from_contains xs a)
  where
    by_case : (x ≡ a) ⊎ Contains xs a → (Contains xs a → Mem a xs) → Mem a (x ∷ xs)
    by_case (inl same) later = inl same
    by_case (inr more) later = inr (later more)

pub contains_from_mem : {A : Type 0} (xs : List A) (a : A) → Mem a xs → Contains xs a
contains_from_mem [] a h = absurd h
contains_from_mem (x ∷ xs) a (inl same) = subst (λ z. Contains (x ∷ xs) z) same (contains_here x xs)
contains_from_mem (x ∷ xs) a (inr later) = contains_later x xs a (contains_from_mem xs a later)

-- a list is cut at each of its elements
pub mem_cut : {A : Type 0} (a : A) (xs : List A) → Mem a xs → (before : List A) × (after : List A) × (xs ≡ before ++ a ∷ after)
mem_cut a [] h = absurd h
mem_cut a (x ∷ xs) (inl same) = ([], xs, ap (λ z. z ∷ xs) same)
mem_cut a (x ∷ xs) (inr later) =
    let cut = mem_cut a xs later in
    (x ∷ cut.0, cut.1, ap (λ zs. x ∷ zs) cut.2)

pub mem_of_cut : {A : Type 0} (a : A) (xs before after : List A) → xs ≡ before ++ a ∷ after → Mem a xs
mem_of_cut a xs before after cut = subst (λ zs. Mem a zs) (sym cut) (mem_right a before (a ∷ after) (inl refl))

pub before_first : {A : Type 0} (a b : A) (xs : List A) → Before a b xs → Mem a xs
before_first a b [] h = absurd h
before_first a b (x ∷ xs) (inl here) = inl here.0
before_first a b (x ∷ xs) (inr later) = inr (before_first a b xs later)

pub before_second : {A : Type 0} (a b : A) (xs : List A) → Before a b xs → Mem b xs
before_second a b [] h = absurd h
before_second a b (x ∷ xs) (inl here) = inr here.1
before_second a b (x ∷ xs) (inr later) = inr (before_second a b xs later)

pub before_left : {A : Type 0} (a b : A) (xs ys : List A) → Before a b xs → Before a b (xs ++ ys)
before_left a b [] ys h = absurd h
before_left a b (x ∷ xs) ys (inl here) = inl (here.0, mem_left b xs ys here.1)
before_left a b (x ∷ xs) ys (inr later) = inr (before_left a b xs ys later)

pub before_right : {A : Type 0} (a b : A) (xs ys : List A) → Before a b ys → Before a b (xs ++ ys)
before_right a b [] ys h = h
before_right a b (x ∷ xs) ys h = inr (before_right a b xs ys h)

pub before_across : {A : Type 0} (a b : A) (xs ys : List A) → Mem a xs → Mem b ys → Before a b (xs ++ ys)
before_across a b [] ys h there = absurd h
before_across a b (x ∷ xs) ys (inl same) there = inl (same, mem_right b xs ys there)
before_across a b (x ∷ xs) ys (inr later) there = inr (before_across a b xs ys later there)

pub before_cases : {A : Type 0} (a b : A) (xs ys : List A) → Before a b (xs ++ ys) → Before a b xs ⊎ (Mem b ys × (Mem a xs ⊎ Before a b ys))
before_cases a b [] ys h = inr (before_second a b ys h, inr h)
before_cases a b (x ∷ xs) ys (inl here) = by_part (mem_cases b xs ys here.1)
  where
    by_part : Mem b xs ⊎ Mem b ys → Before a b (x ∷ xs) ⊎ (Mem b ys × (Mem a (x ∷ xs) ⊎ Before a b ys))
    by_part (inl first) = inl (inl (here.0, first))
    by_part (inr second) = inr (second, inl (inl here.0))
before_cases a b (x ∷ xs) ys (inr later) = by_part (before_cases a b xs ys later)
  where
    by_first : Mem b ys → Mem a xs ⊎ Before a b ys → Before a b (x ∷ xs) ⊎ (Mem b ys × (Mem a (x ∷ xs) ⊎ Before a b ys))
    by_first second (inl first) = inr (second, inl (inr first))
    by_first second (inr both) = inr (second, inr both)

    by_part : Before a b xs ⊎ (Mem b ys × (Mem a xs ⊎ Before a b ys)) → Before a b (x ∷ xs) ⊎ (Mem b ys × (Mem a (x ∷ xs) ⊎ Before a b ys))
    by_part (inl both) = inl (inr both)
    by_part (inr rest) = by_first rest.0 rest.1

pub before_of_cut : {A : Type 0} (a b : A) (xs before after : List A) → xs ≡ before ++ b ∷ after → Mem a before → Before a b xs
before_of_cut a b xs before after cut h = subst (λ zs. Before a b zs) (sym cut) (before_across a b before (b ∷ after) h (inl refl))

pub filter_yes : {A : Type 0} (p : A → Bool) (x : A) (xs : List A) → p x ≡ true → filter p (x ∷ xs) ≡ x ∷ filter p xs
filter_yes p x xs kept = cond-true (p x) (x ∷ filter p xs) (filter p xs) kept

pub filter_no : {A : Type 0} (p : A → Bool) (x : A) (xs : List A) → p x ≡ false → filter p (x ∷ xs) ≡ filter p xs
filter_no p x xs left = cond-false (p x) (x ∷ filter p xs) (filter p xs) left

pub mem_filter : {A : Type 0} (p : A → Bool) (a : A) (xs : List A) → Mem a xs → p a ≡ true → Mem a (filter p xs)
mem_filter p a [] h passes = absurd h
mem_filter p a (x ∷ xs) (inl same) passes = subst (λ zs. Mem a zs) (sym (filter_yes p x xs (ap p same ∙ passes))) (inl same)
mem_filter p a (x ∷ xs) (inr later) passes =
    let rest : Mem a (filter p xs) = mem_filter p a xs later passes in
    cond_both (p x) (x ∷ filter p xs) (filter p xs) (λ zs. Mem a zs) (λ kept. inr rest) (λ left. rest)

pub mem_of_filter : {A : Type 0} (p : A → Bool) (a : A) (xs : List A) → Mem a (filter p xs) → Mem a xs × (p a ≡ true)
mem_of_filter p a [] h = absurd h
mem_of_filter p a (x ∷ xs) h = by_test (cases_Bool (p x)) (mem_of_filter p a xs)
  where
    by_case : p x ≡ true → (x ≡ a) ⊎ Mem a (filter p xs) → (Mem a (filter p xs) → Mem a xs × (p a ≡ true)) → Mem a (x ∷ xs) × (p a ≡ true)
    by_case kept (inl same) later = (inl same, ap p (sym same) ∙ kept)
    by_case kept (inr more) later = let found = later more in (inr found.0, found.1)

    by_test : (p x ≡ true) ⊎ (p x ≡ false) → (Mem a (filter p xs) → Mem a xs × (p a ≡ true)) → Mem a (x ∷ xs) × (p a ≡ true)
    by_test (inl kept) later = by_case kept (subst (λ zs. Mem a zs) (filter_yes p x xs kept) h) later
    by_test (inr left) later =
        let found = later (subst (λ zs. Mem a zs) (filter_no p x xs left) h) in
        (inr found.0, found.1)

pub before_filter : {A : Type 0} (p : A → Bool) (a b : A) (xs : List A) → p a ≡ true → p b ≡ true → Before a b xs → Before a b (filter p xs)
before_filter p a b [] first second h = absurd h
before_filter p a b (x ∷ xs) first second (inl here) =
    subst (λ zs. Before a b zs) (sym (filter_yes p x xs (ap p here.0 ∙ first))) (inl (here.0, mem_filter p b xs here.1 second))
before_filter p a b (x ∷ xs) first second (inr later) =
    let rest : Before a b (filter p xs) = before_filter p a b xs first second later in
    cond_both (p x) (x ∷ filter p xs) (filter p xs) (λ zs. Before a b zs) (λ kept. inr rest) (λ left. rest)

-- a filter that keeps nothing, and one that keeps all
pub filter_none : {A : Type 0} (p : A → Bool) (xs : List A) → ((x : A) → Mem x xs → p x ≡ false) → filter p xs ≡ []
filter_none p [] h = refl
filter_none p (x ∷ xs) h = filter_no p x xs (h x (inl refl)) ∙ filter_none p xs (λ y there. h y (inr there))

pub filter_all : {A : Type 0} (p : A → Bool) (xs : List A) → ((x : A) → Mem x xs → p x ≡ true) → filter p xs ≡ xs
filter_all p [] h = refl
filter_all p (x ∷ xs) h = filter_yes p x xs (h x (inl refl)) ∙ ap (λ zs. x ∷ zs) (filter_all p xs (λ y there. h y (inr there)))

and_within : (b c : Bool) → (b ≡ true → c ≡ true) → (c && b) ≡ b
and_within true true h = refl
and_within true false h = h refl
and_within false true h = refl
and_within false false h = refl

-- a filter within a wider one
pub filter_within : {A : Type 0} (p q : A → Bool) (xs : List A) → ((x : A) → p x ≡ true → q x ≡ true) → filter p (filter q xs) ≡ filter p xs
filter_within p q xs h = filter_twice p q xs ∙ filter_agree (λ x. q x && p x) p (λ x. and_within (p x) (q x) (h x)) xs

and_swap : (b c d : Bool) → (b ≡ true → c ≡ d) → (c && b) ≡ (b && d)
and_swap true true d h = h refl
and_swap true false d h = h refl
and_swap false true d h = refl
and_swap false false d h = refl

-- two filters change places, where two tests agree on what a third keeps
pub filter_swap : {A : Type 0} (p q r : A → Bool) (xs : List A) → ((x : A) → p x ≡ true → r x ≡ q x) → filter p (filter r xs) ≡ filter q (filter p xs)
filter_swap p q r xs h =
    filter_twice p r xs ∙ filter_agree (λ x. r x && p x) (λ x. p x && q x) (λ x. and_swap (p x) (r x) (q x) (h x)) xs ∙ sym (filter_twice q p xs)

-- what a search finds is the first that a filter keeps
pub find_none_filter : {A : Type 0} (p : A → Bool) (xs : List A) → find p xs ≡ None → filter p xs ≡ []
find_none_filter p [] e = refl
find_none_filter p (x ∷ xs) e = by_test (cases_Bool (p x)) (find_none_filter p xs)
  where
    by_test : (p x ≡ true) ⊎ (p x ≡ false) → (find p xs ≡ None → filter p xs ≡ []) → filter p (x ∷ xs) ≡ []
    by_test (inl kept) later =
        let here : Some x ≡ None = rw kept at e in
        absurd (cc)
    by_test (inr left) later =
        let rest : find p xs ≡ None = rw left at e in
        filter_no p x xs left ∙ later rest

pub find_some_filter : {A : Type 0} (p : A → Bool) (xs : List A) (a : A) → find p xs ≡ Some a → (rest : List A) × (filter p xs ≡ a ∷ rest)
find_some_filter p [] a e = absurd (cc)
find_some_filter {A = A} p (x ∷ xs) a e = by_test (cases_Bool (p x)) (find_some_filter p xs a)
  where
    by_test : (p x ≡ true) ⊎ (p x ≡ false) → (find p xs ≡ Some a → (rest : List A) × (filter p xs ≡ a ∷ rest)) → (rest : List A) × (filter p (x ∷ xs) ≡ a ∷ rest)
    by_test (inl kept) later =
        let here : Some x ≡ Some a = rw kept at e in
        let same : x ≡ a = cc in
        (filter p xs, filter_yes p x xs kept ∙ ap (λ z. z ∷ filter p xs) same)
    by_test (inr left) later =
        let more : find p xs ≡ Some a = rw left at e in
        let found = later more in
        (found.0, filter_no p x xs left ∙ found.1)

pub mem_of_map : {A B : Type 0} (f : A → B) (b : B) (xs : List A) → Mem b (map f xs) → (a : A) × Mem a xs × (f a ≡ b)
mem_of_map f b [] h = absurd h
mem_of_map f b (x ∷ xs) (inl same) = (x, inl refl, same)
mem_of_map f b (x ∷ xs) (inr later) = let found = mem_of_map f b xs later in (found.0, inr found.1, found.2)
