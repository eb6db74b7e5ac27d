-- Lines: one more at the end, some taken out, and the one that a number or a name finds.
use Rattle.std.proofs.Common.{◌≡◌, ◌⊎◌, inl, inr, ℕ, ◌<◌, List, [], ◌∷◌, ◌++◌, Bool, true, false, not, cond, Option, Some, None, find, filter, refl, sym, ap, subst, arith}
use Rattle.std.specs.List.{AllByRecursion}
use Rattle.std.specs.Option.{option_map}
use Rattle.std.specs.declared.cmp.Ordering.TheVariants.{Greater}
use Rattle.std.specs.Ordering.{nat_cmp}
use Rattle.std.specs.Map.{lookup, remove_entry}
use Rattle.std.specs.BTreeMap.{insert_entry, is_at}
use Rattle.std.proofs.lemmas.Bool.Decides.{nat_tests}
use Rattle.prepare_pools.specs.Line.{AllBelow, AllPairs, IsLine, Precedes}

pub all_push : {X : Type 0} (P : X → Type 0) (xs : List X) (y : X) → AllByRecursion P xs → P y → AllByRecursion P (xs ++ y ∷ [])
all_push P [] y all last = (last, tt)
all_push P (x ∷ xs) y all last = (all.0, all_push P xs y all.1 last)

pub all_weaker : {X : Type 0} (P Q : X → Type 0) → ((x : X) → P x → Q x) → (xs : List X) → AllByRecursion P xs → AllByRecursion Q xs
all_weaker P Q weaker [] all = tt
all_weaker P Q weaker (x ∷ xs) all = (weaker x all.0, all_weaker P Q weaker xs all.1)

filter_case : {X : Type 0} (P : List X → Type 0) (x : X) (xs : List X) (b : Bool) → P (x ∷ xs) → P xs → P (cond b (x ∷ xs) xs)
filter_case P x xs true kept dropped = kept
filter_case P x xs false kept dropped = dropped

pub all_filter : {X : Type 0} (P : X → Type 0) (test : X → Bool) (xs : List X) → AllByRecursion P xs → AllByRecursion P (filter test xs)
all_filter P test [] all = tt
all_filter P test (x ∷ xs) all =
    let rest = all_filter P test xs all.1 in
    filter_case (AllByRecursion P) x (filter test xs) (test x) (all.0, rest) rest

pub pairs_push : {X : Type 0} (R : X → X → Type 0) (xs : List X) (y : X) → AllPairs R xs → AllByRecursion (λ x. R x y) xs → AllPairs R (xs ++ y ∷ [])
pairs_push R [] y pairs all = (tt, tt)
pairs_push R (x ∷ xs) y pairs all = (all_push (R x) xs y pairs.0 all.0, pairs_push R xs y pairs.1 all.1)

pub pairs_filter : {X : Type 0} (R : X → X → Type 0) (test : X → Bool) (xs : List X) → AllPairs R xs → AllPairs R (filter test xs)
pairs_filter R test [] pairs = tt
pairs_filter R test (x ∷ xs) pairs =
    let rest = pairs_filter R test xs pairs.1 in
    filter_case (AllPairs R) x (filter test xs) (test x) (all_filter (R x) test xs pairs.0, rest) rest

-- a number above all others goes to the end
pub insert_last : {X : Type 0} (es : List (ℕ × X)) (n : ℕ) (y : X) → AllBelow n es → insert_entry nat_cmp es n y ≡ es ++ (n, y) ∷ []
insert_last [] n y below = refl
insert_last (e ∷ es) n y below =
    let above : nat_cmp n e.0 ≡ Greater = (let lower : e.0 < n = below.0 in grind (arith, nat_tests)) in
    rw above (ap (λ xs. e ∷ xs) (insert_last es n y below.1))

-- what a filter keeps or drops, a search finds or misses
pub find_kept : {X : Type 0} (p q : X → Bool) → ((x : X) → p x ≡ true → q x ≡ true) → (xs : List X) → find p (filter q xs) ≡ find p xs
find_kept p q keeps [] = refl
find_kept p q keeps (x ∷ xs) = kept_case p q x xs _ _ refl refl (keeps x) (find_kept p q keeps xs)
  where
    kept_case : {X : Type 0} (p q : X → Bool) (x : X) (xs : List X) (a b : Bool) → p x ≡ a → q x ≡ b → (p x ≡ true → q x ≡ true)
        → find p (filter q xs) ≡ find p xs → find p (filter q (x ∷ xs)) ≡ find p (x ∷ xs)
    kept_case p q x xs a true is kept keeps rest = rw kept (ap (λ o. cond (p x) (Some x) o) rest)
    kept_case p q x xs true false is kept keeps rest = absurd (let e = keeps is in cc)
    kept_case p q x xs false false is kept keeps rest = rw kept (rw is rest)

pub find_dropped : {X : Type 0} (p q : X → Bool) → ((x : X) → p x ≡ true → q x ≡ false) → (xs : List X) → find p (filter q xs) ≡ None
find_dropped p q drops [] = refl
find_dropped p q drops (x ∷ xs) = dropped_case p q x xs _ _ refl refl (drops x) (find_dropped p q drops xs)
  where
    dropped_case : {X : Type 0} (p q : X → Bool) (x : X) (xs : List X) (a b : Bool) → p x ≡ a → q x ≡ b → (p x ≡ true → q x ≡ false)
        → find p (filter q xs) ≡ None → find p (filter q (x ∷ xs)) ≡ None
    dropped_case p q x xs a false is kept drops rest = rw kept rest
    dropped_case p q x xs true true is kept drops rest = absurd (let e = drops is in cc)
    dropped_case p q x xs false true is kept drops rest = rw kept (rw is rest)

pub none_parts : {X : Type 0} (b : Bool) (x : X) (o : Option X) → cond b (Some x) o ≡ None → (b ≡ false) × (o ≡ None)
none_parts true x o e = absurd (cc)
none_parts false x o e = (refl, e)

pub some_parts : {X : Type 0} (b : Bool) (x y : X) (o : Option X) → cond b (Some x) o ≡ Some y → ((b ≡ true) × (x ≡ y)) ⊎ ((b ≡ false) × (o ≡ Some y))
some_parts true x y o e = inl (refl, cc)
some_parts false x y o e = inr (refl, e)

pub none_mapped : {X Y : Type 0} (f : X → Y) (o : Option X) → option_map f o ≡ None → o ≡ None
none_mapped f None e = refl
none_mapped f (Some x) e = absurd (cc)

pub filter_same : {X : Type 0} (p : X → Bool) (xs : List X) → AllByRecursion (λ x. p x ≡ false) xs → filter (λ x. not (p x)) xs ≡ xs
filter_same p [] none = refl
filter_same p (x ∷ xs) none = let first : p x ≡ false = none.0 in rw first (ap (λ ys. x ∷ ys) (filter_same p xs none.1))

pub all_missed : {X : Type 0} (p : X → Bool) (xs : List X) → find p xs ≡ None → AllByRecursion (λ x. p x ≡ false) xs
all_missed p [] none = tt
all_missed p (x ∷ xs) none = let parts = none_parts (p x) x (find p xs) none in (parts.0, all_missed p xs parts.1)

pub all_found : {X : Type 0} (P : X → Type 0) (p : X → Bool) (xs : List X) (y : X) → AllByRecursion P xs → find p xs ≡ Some y → P y
all_found P p [] y all found = absurd (cc)
all_found P p (x ∷ xs) y all found =
    elim (some_parts (p x) x y (find p xs) found) [
      | inl h ↦ subst P h.1 all.0
      | inr h ↦ all_found P p xs y all.1 h.1
    ]

at_itself : (a : ℕ) → is_at (nat_cmp a) a ≡ true
at_itself a = grind (arith, nat_tests)

at_lower : (a k : ℕ) → k < a → is_at (nat_cmp a) k ≡ false
at_lower a k lower = grind (arith, nat_tests)

-- no other of a line passes a test that one name alone passes
pub no_other : {X N : Type 0} (name : X → N) (test : X → Bool) → ((x y : X) → test x ≡ true → test y ≡ true → name x ≡ name y)
    → (e : ℕ × X) (es : List (ℕ × X)) → test e.1 ≡ true → AllByRecursion (Precedes name e) es → AllByRecursion (λ f. test f.1 ≡ false) es
no_other name test same e es passes all = all_weaker _ _ (λ f before. missed (test f.1) (λ hit. before.1 (same e.1 f.1 passes hit))) es all
  where
    missed : (b : Bool) → (b ≡ true → ⊥) → b ≡ false
    missed true never = absurd (never refl)
    missed false never = refl

-- by the number of what a name finds, just that is taken out
pub line_removed : {X N : Type 0} (name : X → N) (test : X → Bool) → ((x y : X) → test x ≡ true → test y ≡ true → name x ≡ name y)
    → (es : List (ℕ × X)) (a : ℕ) (x : X) → IsLine name es → find (λ e. test e.1) es ≡ Some (a, x)
    → remove_entry (is_at (nat_cmp a)) es ≡ filter (λ e. not (test e.1)) es
line_removed name test same [] a x line found = refl
line_removed name test same (e ∷ es) a x line found =
    elim (some_parts (test e.1) e (a, x) (find (λ f. test f.1) es) found) [
      | inl h ↦
          (let here : is_at (nat_cmp a) e.0 ≡ true = subst (λ k. is_at (nat_cmp a) k ≡ true) (sym (ap (λ f. f.0) h.1)) (at_itself a) in
          let hit : test e.1 ≡ true = h.0 in
          rw (here, hit) (sym (filter_same (λ f. test f.1) es (no_other name test same e es h.0 line.0))))
      | inr h ↦
          (let lower : e.0 < a = all_found (λ f. e.0 < f.0) (λ f. test f.1) es (a, x) (all_weaker (Precedes name e) _ (λ f before. before.0) es line.0) h.1 in
          let there : is_at (nat_cmp a) e.0 ≡ false = at_lower a e.0 lower in
          let missed : test e.1 ≡ false = h.0 in
          rw (there, missed) (ap (λ xs. e ∷ xs) (line_removed name test same es a x line.1 h.1)))
    ]

-- the number of what a name finds leads to it
pub line_found : {X N : Type 0} (name : X → N) (test : X → Bool) (es : List (ℕ × X)) (a : ℕ) (x : X) → IsLine name es
    → find (λ e. test e.1) es ≡ Some (a, x) → lookup (is_at (nat_cmp a)) es ≡ Some x
line_found name test [] a x line found = absurd (cc)
line_found name test (e ∷ es) a x line found =
    elim (some_parts (test e.1) e (a, x) (find (λ f. test f.1) es) found) [
      | inl h ↦
          (let here : is_at (nat_cmp a) e.0 ≡ true = subst (λ k. is_at (nat_cmp a) k ≡ true) (sym (ap (λ f. f.0) h.1)) (at_itself a) in
          rw here (ap (λ f. Some f.1) h.1))
      | inr h ↦
          (let lower : e.0 < a = all_found (λ f. e.0 < f.0) (λ f. test f.1) es (a, x) (all_weaker (Precedes name e) _ (λ f before. before.0) es line.0) h.1 in
          let there : is_at (nat_cmp a) e.0 ≡ false = at_lower a e.0 lower in
          rw there (line_found name test es a x line.1 h.1))
    ]

-- one more at the end, of a new name
pub line_push : {X N : Type 0} (name : X → N) (test : X → Bool) (n : ℕ) (y : X) → ((x : X) → name x ≡ name y → test x ≡ true)
    → (es : List (ℕ × X)) → AllBelow n es → find (λ e. test e.1) es ≡ None → IsLine name es → IsLine name (es ++ (n, y) ∷ [])
line_push name test n y hits es below none line = pairs_push (Precedes name) es (n, y) line (apart name test n y hits es below (all_missed (λ e. test e.1) es none))
  where
    apart : {X N : Type 0} (name : X → N) (test : X → Bool) (n : ℕ) (y : X) → ((x : X) → name x ≡ name y → test x ≡ true)
        → (es : List (ℕ × X)) → AllBelow n es → AllByRecursion (λ e. test e.1 ≡ false) es → AllByRecursion (λ e. Precedes name e (n, y)) es
    apart name test n y hits [] below missed = tt
    apart name test n y hits (e ∷ es) below missed =
        ((below.0, λ same. absurd (let hit = hits e.1 same in let miss = missed.0 in cc)), apart name test n y hits es below.1 missed.1)
