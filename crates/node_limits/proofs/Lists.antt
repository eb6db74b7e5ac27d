-- Lists: what is kept of them, counted and looked up.
use Rattle.std.proofs.Common.{◌≡◌, ap, refl, suc, ℕ, ◌+◌, ◌-◌, ◌<◌, ◌≤◌, Bool, true, false, not, ◌&&◌, ◌||◌, ◌⊎◌, inl, inr, Option, Some, None, List, [], ◌∷◌, length, take, drop, min, filter, find, All, AllPairs, arith}
use Rattle.std.proofs.lemmas.List.{get_or_default, get_or-drop, get_or-take, length-drop, length-take}
use Rattle.std.proofs.lemmas.List.Elements.{All-cons, All-head, All-nil, All-tail}
use Rattle.std.proofs.lemmas.Bool.{both_ways, cases_Bool}
use Rattle.helios_model.specs.declared.records.Record.{Record}
use Rattle.helios_model.specs.declared.records.Record.TheVariants.{Prepare, Commit, Abort}
use Rattle.helios_model.specs.Transactions.{Transaction}
use Rattle.helios_model.specs.Log.{prepares}

pub or_false : (b : Bool) → (b || false) ≡ b
or_false true = refl
or_false false = refl

pub not_or : (a b : Bool) → not (a || b) ≡ (not a && not b)
not_or true b = refl
not_or false b = refl

pub filter_twice : {X : Type 0} (p q : X → Bool) (xs : List X) → filter p (filter q xs) ≡ filter (λ x. q x && p x) xs
filter_twice p q [] = refl
filter_twice {X = X} p q (x ∷ xs) = by_test (cases_Bool (q x)) (cases_Bool (p x)) (filter_twice p q xs)
  where
    by_test : (q x ≡ true) ⊎ (q x ≡ false) → (p x ≡ true) ⊎ (p x ≡ false) → filter p (filter q xs) ≡ filter (λ y. q y && p y) xs
        → filter p (filter q (x ∷ xs)) ≡ filter (λ y. q y && p y) (x ∷ xs)
    by_test (inl a) (inl b) same = simp (a, b) (ap (λ ys. x ∷ ys) same)
    by_test (inl a) (inr b) same = simp (a, b) same
    by_test (inr a) b same = simp a same

pub fewer : {X : Type 0} (p : X → Bool) (xs : List X) → length (filter p xs) ≤ length xs
fewer p [] = omega arith
fewer {X = X} p (x ∷ xs) = by_test (cases_Bool (p x)) (fewer p xs)
  where
    by_test : (p x ≡ true) ⊎ (p x ≡ false) → length (filter p xs) ≤ length xs → length (filter p (x ∷ xs)) ≤ length (x ∷ xs)
    by_test (inl kept) less = rw kept (omega arith)
    by_test (inr left) less = rw left (omega arith)

-- of a list whose elements pass the one test only where they pass the other, the one keeps no more
pub fewer_in : {X : Type 0} (p q : X → Bool) (xs : List X) → All (λ x. p x ≡ true → q x ≡ true) xs → length (filter p xs) ≤ length (filter q xs)
fewer_in p q [] h = omega arith
fewer_in {X = X} p q (x ∷ xs) h =
    by_test (cases_Bool (p x)) (cases_Bool (q x)) (fewer_in p q xs (All-tail (λ y. p y ≡ true → q y ≡ true) x xs h)) (All-head (λ y. p y ≡ true → q y ≡ true) x xs h)
  where
    by_test : (p x ≡ true) ⊎ (p x ≡ false) → (q x ≡ true) ⊎ (q x ≡ false) → length (filter p xs) ≤ length (filter q xs) → (p x ≡ true → q x ≡ true)
        → length (filter p (x ∷ xs)) ≤ length (filter q (x ∷ xs))
    by_test (inl a) (inl b) less here = rw (a, b) (omega arith)
    by_test (inl a) (inr b) less here = absurd (both_ways (q x) b (here a))
    by_test (inr a) (inl b) less here = rw (a, b) (omega arith)
    by_test (inr a) (inr b) less here = rw (a, b) less

pub pairs_head : {X : Type 0} (R : X → X → Type 0) (x : X) (xs : List X) → AllPairs R (x ∷ xs) → All (R x) xs
pairs_head R x xs h k d low = h 0 (suc k) d (omega arith) (omega arith)

pub pairs_tail : {X : Type 0} (R : X → X → Type 0) (x : X) (xs : List X) → AllPairs R (x ∷ xs) → AllPairs R xs
pairs_tail R x xs h i j d low high = h (suc i) (suc j) d (omega arith) (omega arith)

pub pairs_take : {X : Type 0} (R : X → X → Type 0) (n : ℕ) (xs : List X) → AllPairs R xs → AllPairs R (take n xs)
pairs_take R n xs h i j d below low =
    let long : length (take n xs) ≡ min n (length xs) = length-take n xs in
    let inside : j < n = omega arith in
    let within : j < length xs = omega arith in
    rw (get_or-take n xs i d (omega arith), get_or-take n xs j d inside) (h i j d below within)

-- what is taken stands before what is left
pub pairs_split : {X : Type 0} (R : X → X → Type 0) (n : ℕ) (xs : List X) → AllPairs R xs → All (λ x. All (R x) (drop n xs)) (take n xs)
pairs_split R n xs h i d low = λ k e inside.
    let long : length (take n xs) ≡ min n (length xs) = length-take n xs in
    let rest : length (drop n xs) ≡ length xs - n = length-drop n xs in
    let front : i < n = omega arith in
    let last : n + k < length xs = omega arith in
    rw (get_or-take n xs i d front, get_or-drop n xs k e, get_or_default xs (n + k) e d last) (h i (n + k) d (omega arith) last)

-- what holds of each element holds of the one that is found
abbrev pub OnFound : {X : Type 0} → (X → Type 0) → Option X → Type 0
OnFound P None = Unit {0}
OnFound P (Some x) = P x

pub found_holds : {X : Type 0} (P : X → Type 0) (p : X → Bool) (xs : List X) → All P xs → OnFound P (find p xs)
found_holds P p [] h = tt
found_holds {X = X} P p (x ∷ xs) h = by_test (cases_Bool (p x)) (found_holds P p xs (All-tail P x xs h))
  where
    by_test : (p x ≡ true) ⊎ (p x ≡ false) → OnFound P (find p xs) → OnFound P (find p (x ∷ xs))
    by_test (inl here) later = rw here (All-head P x xs h)
    by_test (inr other) later = rw other later

-- what holds of each Prepare of a log holds of each transaction of it
pub prepares_hold : (P : Record → Type 0) (Q : Transaction → Type 0) → ((p : Transaction) → P (Prepare p) → Q p) → (log : List Record) → All P log → All Q (prepares log)
prepares_hold P Q to [] h = All-nil Q
prepares_hold P Q to (Prepare p ∷ rs) h = All-cons Q p (prepares rs) (to p (All-head P (Prepare p) rs h)) (prepares_hold P Q to rs (All-tail P (Prepare p) rs h))
prepares_hold P Q to (Commit id time ∷ rs) h = prepares_hold P Q to rs (All-tail P (Commit id time) rs h)
prepares_hold P Q to (Abort id time cause ∷ rs) h = prepares_hold P Q to rs (All-tail P (Abort id time cause) rs h)
