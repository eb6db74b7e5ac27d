-- Lists of which something holds of each, and of each with those behind it.
use Rattle.std.proofs.Common.{◌≡◌, ℕ, zero, suc, List, [], ◌∷◌, ◌++◌, Bool, true, false, cond, All, filter, take, drop, refl, ap, arith}
use Rattle.std.specs.List.{AllByRecursion}
use Rattle.log_exchange.specs.Runs.{AllPairs}

pub all_push : {X : Type 0} (P : X → Type 0) (xs : List X) (y : X) → AllByRecursion P xs → P y → AllByRecursion P (xs ++ y ∷ [])
all_push P [] y all last = (last, tt)
all_push P (x ∷ xs) y all last = (all.0, all_push P xs y all.1 last)

pub all_weaker : {X : Type 0} (P Q : X → Type 0) → ((x : X) → P x → Q x) → (xs : List X) → AllByRecursion P xs → AllByRecursion Q xs
all_weaker P Q weaker [] all = tt
all_weaker P Q weaker (x ∷ xs) all = (weaker x all.0, all_weaker P Q weaker xs all.1)

pub all_take : {X : Type 0} (P : X → Type 0) (n : ℕ) (xs : List X) → AllByRecursion P xs → AllByRecursion P (take n xs)
all_take P zero xs all = tt
all_take P (suc n) [] all = tt
all_take P (suc n) (x ∷ xs) all = (all.0, all_take P n xs all.1)

pub all_rest : {X : Type 0} (P : X → Type 0) (xs : List X) → AllByRecursion P xs → AllByRecursion P (drop 1 xs)
all_rest P [] all = tt
all_rest P (x ∷ xs) all = all.1

filter_case : {X : Type 0} (P : List X → Type 0) (x : X) (xs : List X) (b : Bool) → P (x ∷ xs) → P xs → P (cond b (x ∷ xs) xs)
filter_case P x xs true kept dropped = kept
filter_case P x xs false kept dropped = dropped

pub all_filter : {X : Type 0} (P : X → Type 0) (test : X → Bool) (xs : List X) → AllByRecursion P xs → AllByRecursion P (filter test xs)
all_filter P test [] all = tt
all_filter P test (x ∷ xs) all =
    let rest = all_filter P test xs all.1 in
    filter_case (AllByRecursion P) x (filter test xs) (test x) (all.0, rest) rest

pub pairs_push : {X : Type 0} (R : X → X → Type 0) (xs : List X) (y : X) → AllPairs R xs → AllByRecursion (λ x. R x y) xs → AllPairs R (xs ++ y ∷ [])
pairs_push R [] y pairs all = (tt, tt)
pairs_push R (x ∷ xs) y pairs all = (all_push (R x) xs y pairs.0 all.0, pairs_push R xs y pairs.1 all.1)

pub pairs_take : {X : Type 0} (R : X → X → Type 0) (n : ℕ) (xs : List X) → AllPairs R xs → AllPairs R (take n xs)
pairs_take R zero xs pairs = tt
pairs_take R (suc n) [] pairs = tt
pairs_take R (suc n) (x ∷ xs) pairs = (all_take (R x) n xs pairs.0, pairs_take R n xs pairs.1)

pub pairs_rest : {X : Type 0} (R : X → X → Type 0) (xs : List X) → AllPairs R xs → AllPairs R (drop 1 xs)
pairs_rest R [] pairs = tt
pairs_rest R (x ∷ xs) pairs = pairs.1

pub pairs_filter : {X : Type 0} (R : X → X → Type 0) (test : X → Bool) (xs : List X) → AllPairs R xs → AllPairs R (filter test xs)
pairs_filter R test [] pairs = tt
pairs_filter R test (x ∷ xs) pairs =
    let rest = pairs_filter R test xs pairs.1 in
    filter_case (AllPairs R) x (filter test xs) (test x) (all_filter (R x) test xs pairs.0, rest) rest

-- what passes a test
pub all_pass : {X : Type 0} (test : X → Bool) (xs : List X) → AllByRecursion (λ x. test x ≡ true) (filter test xs)
all_pass test [] = tt
all_pass test (x ∷ xs) = by_case test x xs _ refl (all_pass test xs)
  where
    by_case : {X : Type 0} (test : X → Bool) (x : X) (xs : List X) (b : Bool) → test x ≡ b
        → AllByRecursion (λ x. test x ≡ true) (filter test xs) → AllByRecursion (λ x. test x ≡ true) (filter test (x ∷ xs))
    by_case test x xs true is rest = rw is (is, rest)
    by_case test x xs false is rest = rw is rest

-- a filter that all pass
pub filter_all : {X : Type 0} (test : X → Bool) (xs : List X) → AllByRecursion (λ x. test x ≡ true) xs → filter test xs ≡ xs
filter_all test [] all = refl
filter_all test (x ∷ xs) all = let first : test x ≡ true = all.0 in rw first (ap (λ ys. x ∷ ys) (filter_all test xs all.1))

pub filter_within : {X : Type 0} (p q : X → Bool) → ((x : X) → p x ≡ true → q x ≡ true) → (xs : List X) → filter p (filter q xs) ≡ filter p xs
filter_within p q wider [] = refl
filter_within p q wider (x ∷ xs) = by_case p q x xs _ _ refl refl (wider x) (filter_within p q wider xs)
  where
    by_case : {X : Type 0} (p q : X → Bool) (x : X) (xs : List X) (a b : Bool) → p x ≡ a → q x ≡ b → (p x ≡ true → q x ≡ true)
        → filter p (filter q xs) ≡ filter p xs → filter p (filter q (x ∷ xs)) ≡ filter p (x ∷ xs)
    by_case p q x xs a true is kept wider rest = rw kept (ap (λ ys. cond (p x) (x ∷ ys) ys) rest)
    by_case p q x xs true false is kept wider rest = absurd (let e = wider is in cc)
    by_case p q x xs false false is kept wider rest = rw kept (rw is rest)

-- the same for each place
pub all_places : {X : Type 0} (P : X → Type 0) (xs : List X) → AllByRecursion P xs → All P xs
all_places P [] all k d low = absurd (omega arith)
all_places P (x ∷ xs) all zero d low = all.0
all_places P (x ∷ xs) all (suc k) d low = all_places P xs all.1 k d (omega arith)
