-- Entries in the order of their keys: one that is inserted and taken back, and what each key holds meanwhile.
use Rattle.std.proofs.Common.{◌≡◌, ℕ, List, [], ◌∷◌, true, false, Option, Some, None, IsSome, is_some, refl, ap, subst}
use Rattle.std.specs.declared.cmp.Ordering.{Ordering}
use Rattle.std.specs.declared.cmp.Ordering.TheVariants.{Less, Equal, Greater}
use Rattle.std.specs.Ordering.{nat_cmp}
use Rattle.std.specs.Cmp.Lexicographic.{slice_cmp}
use Rattle.std.proofs.lemmas.Cmp.{nat_list_cmp_total, tied_itself}
use Rattle.std.specs.Map.{remove_entry}
use Rattle.std.specs.BTreeMap.{insert_entry, is_at}
use Rattle.version_store.specs.declared.held.Held.{Held}
use Rattle.version_store.specs.Store.{held_at}
use Rattle.version_store.specs.Places.{GetsPlace}

none_from_test : (o : Option Held) → is_some o ≡ false → o ≡ None
none_from_test None e = refl
none_from_test (Some h) e = cc

some_is : (o : Option Held) (h : Held) → o ≡ Some h → IsSome o
some_is None h e = cc
some_is (Some g) h e = refl

-- a key's order to the first key decides where it goes, and the place is found again
back_step : (k : List ℕ) (h : Held) (e : List ℕ × Held) (es : List (List ℕ × Held)) (o : Ordering) → slice_cmp nat_cmp k e.0 ≡ o
    → held_at (e ∷ es) k ≡ None
    → (held_at es k ≡ None → remove_entry (is_at (slice_cmp nat_cmp k)) (insert_entry (slice_cmp nat_cmp) es k h) ≡ es)
    → remove_entry (is_at (slice_cmp nat_cmp k)) (insert_entry (slice_cmp nat_cmp) (e ∷ es) k h) ≡ e ∷ es
back_step k h e es Less is none rest = let same : slice_cmp nat_cmp k k ≡ Equal = tied_itself nat_list_cmp_total k in rw is (rw same refl)
back_step k h e es Equal is none rest = absurd (let h = rw is at none in cc)
back_step k h e es Greater is none rest = rw is (rw is (ap (λ xs. e ∷ xs) (rest (rw is at none))))

-- what is inserted at a key that was not there is taken back
pub taken_back : (k : List ℕ) (h : Held) (es : List (List ℕ × Held)) → held_at es k ≡ None
    → remove_entry (is_at (slice_cmp nat_cmp k)) (insert_entry (slice_cmp nat_cmp) es k h) ≡ es
taken_back k h [] none = let same : slice_cmp nat_cmp k k ≡ Equal = tied_itself nat_list_cmp_total k in rw same refl
taken_back k h (e ∷ es) none = back_step k h e es (slice_cmp nat_cmp k e.0) refl none (taken_back k h es)

pub gets_place : (key copied : List ℕ) (held : Held) (old new : List (List ℕ × Held)) → copied ≡ key
    → is_some (held_at old key) ≡ false → new ≡ insert_entry (slice_cmp nat_cmp) old copied held
    → held_at new copied ≡ Some held
    → ((q : List ℕ) → is_at (slice_cmp nat_cmp copied) q ≡ false → held_at new q ≡ held_at old q)
    → GetsPlace key true old new
gets_place key copied held old new same absent inserted there others = record {
  there = some_is _ held (subst (λ k. held_at new k ≡ Some held) same there);
  others = subst (λ k. (q : List ℕ) → is_at (slice_cmp nat_cmp k) q ≡ false → held_at new q ≡ held_at old q) same others;
  back = rw inserted (rw same (taken_back key held old (none_from_test _ absent)));
}
