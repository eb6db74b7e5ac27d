-- Where a list is cut: at an element, and after it grew.
use Rattle.std.proofs.Common.{◌≡◌, ◌∙◌, ap, refl, sym, subst, ◌+◌, ◌<◌, ◌⊎◌, inl, inr, List, [], ◌∷◌, ◌++◌, length, get_or, take, drop, AllPairs, Contains, arith}
use Rattle.std.proofs.lemmas.List.{take-append-drop, drop_more, get_or-take, get_or_at, length-take-le, get_or_append_left, get_or_default, length-append}
use Rattle.protocol_laws.proofs.Sequences.{mem_from_contains, mem_cut}

-- where a list that grew is cut: in the old part, or behind it
pub split_append : {X : Type 0} (log more before : List X) (r : X) (after : List X) → log ++ more ≡ before ++ r ∷ after
    → ((rest : List X) × (log ≡ before ++ r ∷ rest)) ⊎ ((front : List X) × (before ≡ log ++ front) × (more ≡ front ++ r ∷ after))
split_append [] more before r after e = inr (before, refl, e)
split_append (l ∷ log) more [] r after e =
    let head : l ≡ r = cc in
    inl (log, ap (λ x. x ∷ log) head)
split_append {X = X} (l ∷ log) more (b ∷ bs) r after e =
    let head : l ≡ b = cc in
    let tail : log ++ more ≡ bs ++ r ∷ after = cc in
    by_rest head (split_append log more bs r after tail)
  where
    by_rest : l ≡ b → ((rest : List X) × (log ≡ bs ++ r ∷ rest)) ⊎ ((front : List X) × (bs ≡ log ++ front) × (more ≡ front ++ r ∷ after))
        → ((rest : List X) × (l ∷ log ≡ (b ∷ bs) ++ r ∷ rest)) ⊎ ((front : List X) × (b ∷ bs ≡ (l ∷ log) ++ front) × (more ≡ front ++ r ∷ after))
    by_rest head (inl (rest, same)) = inl (rest, cc)
    by_rest head (inr (front, here, there)) = inr (front, cc, there)

-- a list is cut at each of its elements
pub contains_cut : {X : Type 0} (xs : List X) (x : X) → Contains xs x → (before : List X) × (after : List X) × (xs ≡ before ++ x ∷ after)
contains_cut [] x h = let low : h.0 < 0 = h.1 in absurd (omega arith)
contains_cut xs x h = mem_cut x xs (mem_from_contains xs x h)

-- what stands before the place of a cut is less by a relation of pairs
pub pairs_cut : {X : Type 0} (R : X → X → Type 0) (xs before : List X) (x : X) (after : List X) (y : X) → AllPairs R xs → xs ≡ before ++ x ∷ after
    → Contains before y → R y x
pairs_cut R xs before x after y h cut there =
    let all : AllPairs R (before ++ x ∷ after) = subst (AllPairs R) cut h in
    let inside : length before < length (before ++ x ∷ after) = rw length-append (omega arith) in
    let at_y : get_or (before ++ x ∷ after) there.0 y ≡ y = get_or_append_left before (x ∷ after) y there.0 there.1 ∙ there.2 in
    let at_x : get_or (before ++ x ∷ after) (length before) y ≡ x = get_or_at before x after y (length before) refl in
    subst (λ a. R a x) at_y (subst (λ b. R (get_or (before ++ x ∷ after) there.0 y) b) at_x (all there.0 (length before) y there.1 inside))

-- a fact of each record behind those before it, for each two places
pub pairs_from_cuts : {X : Type 0} (R : X → X → Type 0) (xs : List X) → ((before : List X) (x : X) (after : List X) (y : X) → xs ≡ before ++ x ∷ after → Contains before y → R y x)
    → AllPairs R xs
pairs_from_cuts {X = X} R xs h i j d less low =
    h (take j xs) (get_or xs j d) (drop (j + 1) xs) (get_or xs i d) cut there
  where
    cut : xs ≡ take j xs ++ get_or xs j d ∷ drop (j + 1) xs
    cut = sym (take-append-drop j xs) ∙ ap (λ rest. take j xs ++ rest) (drop_more xs j d low)

    long : length (take j xs) ≡ j
    long = length-take-le j xs (omega arith)

    short : i < length (take j xs)
    short = omega (arith, long)

    there : Contains (take j xs) (get_or xs i d)
    there = (i, short, get_or-take j xs i (get_or xs i d) less ∙ get_or_default xs i (get_or xs i d) d (omega arith))

pub no_pairs : {X : Type 0} (R : X → X → Type 0) → AllPairs R []
no_pairs R i j d less low = absurd (omega arith)

pub no_cut : {X : Type 0} (before : List X) (x : X) (after : List X) → [] ≡ before ++ x ∷ after → ⊥
no_cut [] x after e = cc
no_cut (y ∷ before) x after e = cc
