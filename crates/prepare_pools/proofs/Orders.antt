-- Entries whose numbers rise are the same where each number leads to the same.
use Rattle.std.proofs.Common.{◌≡◌, inl, inr, ℕ, ◌<◌, List, [], ◌∷◌, true, false, cond, Some, None, refl, sym, ap, ◌∙◌, arith}
use Rattle.std.specs.declared.cmp.Ordering.TheVariants.{Less}
use Rattle.std.specs.List.{AllByRecursion}
use Rattle.std.specs.List.Sorted.{IsStrictlySortedBy}
use Rattle.std.specs.Ordering.{nat_cmp}
use Rattle.std.specs.Map.{keys_of, lookup}
use Rattle.std.specs.BTreeMap.{is_at}
use Rattle.std.proofs.lemmas.Bool.{cases_order}
use Rattle.std.proofs.lemmas.Bool.Decides.{nat_tests}
use Rattle.std.proofs.lemmas.Map.Keys.{sorted_head, sorted_tail}
use Rattle.prepare_pools.specs.Line.{AllPairs}

abbrev pub Rises : {X : Type 0} → List (ℕ × X) → Type 0
Rises es = AllPairs (λ e f. e.0 < f.0) es

pub at_own : (a : ℕ) → is_at (nat_cmp a) a ≡ true
at_own a = grind (arith, nat_tests)

pub not_at : (a b : ℕ) → (a ≡ b → ⊥) → is_at (nat_cmp a) b ≡ false
not_at a b other = grind (arith, nat_tests)

less_is : (a b : ℕ) → nat_cmp a b ≡ Less → a < b
less_is a b less = grind (arith, nat_tests)

keys_above : {X : Type 0} (n : ℕ) (es : List (ℕ × X)) → AllByRecursion (λ k. nat_cmp n k ≡ Less) (keys_of es) → AllByRecursion (λ e. n < e.0) es
keys_above n [] all = tt
keys_above n (e ∷ es) all = (less_is n e.0 all.0, keys_above n es all.1)

pub rises_from : {X : Type 0} (es : List (ℕ × X)) → IsStrictlySortedBy nat_cmp (keys_of es) → Rises es
rises_from [] sorted = tt
rises_from (e ∷ es) sorted = (keys_above e.0 es (sorted_head nat_cmp e.0 (keys_of es) sorted), rises_from es (sorted_tail nat_cmp e.0 (keys_of es) sorted))

pub none_above : {X : Type 0} (n : ℕ) (es : List (ℕ × X)) → AllByRecursion (λ e. n < e.0) es → lookup (is_at (nat_cmp n)) es ≡ None
none_above n [] all = refl
none_above n (e ∷ es) all =
    let lower : n < e.0 = all.0 in
    let other : is_at (nat_cmp n) e.0 ≡ false = not_at n e.0 (λ same. absurd (omega arith)) in
    rw other (none_above n es all.1)

head_at : {X : Type 0} (e : ℕ × X) (es : List (ℕ × X)) → lookup (is_at (nat_cmp e.0)) (e ∷ es) ≡ Some e.1
head_at e es = ap (λ b. cond b (Some e.1) (lookup (is_at (nat_cmp e.0)) es)) (at_own e.0)

above_more : {X : Type 0} (n m : ℕ) (es : List (ℕ × X)) → n < m → AllByRecursion (λ e. m < e.0) es → AllByRecursion (λ e. n < e.0) es
above_more n m [] lower all = tt
above_more n m (e ∷ es) lower all = ((let higher : m < e.0 = all.0 in omega arith), above_more n m es lower all.1)

pub same_entries : {X : Type 0} (es fs : List (ℕ × X)) → Rises es → Rises fs → ((a : ℕ) → lookup (is_at (nat_cmp a)) es ≡ lookup (is_at (nat_cmp a)) fs) → es ≡ fs
same_entries [] [] up down same = refl
same_entries [] (f ∷ fs) up down same = absurd (let e = same f.0 ∙ head_at f fs in cc)
same_entries (e ∷ es) [] up down same = absurd (let h = sym (head_at e es) ∙ same e.0 in cc)
same_entries (e ∷ es) (f ∷ fs) up down same =
    elim (cases_order e.0 f.0) [
      | inl here ↦
          (let value : Some e.1 ≡ Some f.1 = sym (head_at e es) ∙ (same e.0 ∙ (ap (λ k. lookup (is_at (nat_cmp k)) (f ∷ fs)) here ∙ head_at f fs)) in
          let equal : e.1 ≡ f.1 = cc in
          let pair : e ≡ f = ap (λ k. (k, e.1)) here ∙ ap (λ v. (f.0, v)) equal in
          ap (λ x. x ∷ es) pair ∙ ap (λ xs. f ∷ xs) (same_entries es fs up.1 down.1 (tails e f es fs here up.0 down.0 same)))
      | inr apart ↦ elim apart [
        | inl lower ↦ absurd (let h = sym (head_at e es) ∙ (same e.0 ∙ none_above e.0 (f ∷ fs) (lower, above_more e.0 f.0 fs lower down.0)) in cc)
        | inr higher ↦ absurd (let h = sym (none_above f.0 (e ∷ es) (higher, above_more f.0 e.0 es higher up.0)) ∙ (same f.0 ∙ head_at f fs) in cc)
      ]
    ]
  where
    tail_at : {X : Type 0} (a : ℕ) (e : ℕ × X) (es : List (ℕ × X)) → (a ≡ e.0 → ⊥) → lookup (is_at (nat_cmp a)) (e ∷ es) ≡ lookup (is_at (nat_cmp a)) es
    tail_at a e es other = ap (λ b. cond b (Some e.1) (lookup (is_at (nat_cmp a)) es)) (not_at a e.0 other)

    tails : {X : Type 0} (e f : ℕ × X) (es fs : List (ℕ × X)) → e.0 ≡ f.0 → AllByRecursion (λ x. e.0 < x.0) es → AllByRecursion (λ x. f.0 < x.0) fs
        → ((a : ℕ) → lookup (is_at (nat_cmp a)) (e ∷ es) ≡ lookup (is_at (nat_cmp a)) (f ∷ fs)) → (a : ℕ) → lookup (is_at (nat_cmp a)) es ≡ lookup (is_at (nat_cmp a)) fs
    tails e f es fs here up down same a =
        elim (cases_order a e.0) [
          | inl at ↦
              (let none : lookup (is_at (nat_cmp a)) es ≡ None = ap (λ k. lookup (is_at (nat_cmp k)) es) at ∙ none_above e.0 es up in
              let missing : lookup (is_at (nat_cmp a)) fs ≡ None = ap (λ k. lookup (is_at (nat_cmp k)) fs) (at ∙ here) ∙ none_above f.0 fs down in
              none ∙ sym missing)
          | inr apart ↦
              (let other : a ≡ e.0 → ⊥ = λ at. elim apart [ inl l ↦ absurd (omega arith) | inr l ↦ absurd (omega arith) ] in
              sym (tail_at a e es other) ∙ (same a ∙ tail_at a f fs (λ at. other (at ∙ sym here))))
        ]
