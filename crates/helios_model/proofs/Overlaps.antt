-- Tests on the keys of items, read as tests on the lists of their keys.
use Rattle.std.proofs.Common.{◌≡◌, ◌∙◌, ◌||◌, ℕ, Bool, true, false, List, [], ◌∷◌, ap, sym, map, refl}
use Rattle.std.specs.List.{list_any}
use Rattle.helios_model.specs.Texts.{same_text, contains_text}
use Rattle.helios_model.specs.Transactions.{keys_overwrite, keys_conflict}

pub any_mapped : {X Y : Type 0} (f : X → Y) (p : Y → Bool) (xs : List X) → list_any (λ x. p (f x)) xs ≡ list_any p (map f xs)
any_mapped f p [] = refl
any_mapped f p (x ∷ xs) = ap (λ b. p (f x) || b) (any_mapped f p xs)

-- some item of the first list has the key of an item of the two others
abbrev pub overlap : {X Y Z : Type 0} → (X → List ℕ) → (Y → List ℕ) → (Z → List ℕ) → List X → List Y → List Z → Bool
overlap f g h written reads writes = list_any (λ t. list_any (λ r. same_text (g r) (f t)) reads || list_any (λ w. same_text (h w) (f t)) writes) written

overlap_mapped : {X Y Z : Type 0} (f : X → List ℕ) (g : Y → List ℕ) (h : Z → List ℕ) (written : List X) (reads : List Y) (writes : List Z)
    → overlap f g h written reads writes ≡ list_any (λ key. contains_text (map g reads) key || contains_text (map h writes) key) (map f written)
overlap_mapped f g h [] reads writes = refl
overlap_mapped f g h (t ∷ written) reads writes =
    ap (λ b. (b || list_any (λ w. same_text (h w) (f t)) writes) || overlap f g h written reads writes) (any_mapped g (λ other. same_text other (f t)) reads)
    ∙ ap (λ b. (contains_text (map g reads) (f t) || b) || overlap f g h written reads writes) (any_mapped h (λ other. same_text other (f t)) writes)
    ∙ ap (λ b. (contains_text (map g reads) (f t) || contains_text (map h writes) (f t)) || b) (overlap_mapped f g h written reads writes)

or_of : (a b x y : Bool) → a ≡ x → b ≡ y → (a || b) ≡ (x || y)
or_of a b x y e d = ap (λ z. z || b) e ∙ ap (λ z. x || z) d

-- two sides conflict where the one overlaps the other, or the other the one
pub conflict_first : {X Y Z W : Type 0} (f : X → List ℕ) (g : Y → List ℕ) (h : Z → List ℕ) (k : W → List ℕ) (reads : List X) (writes : List Y)
    (other_reads : List Z) (other_writes : List W) (first : Bool) → first ≡ overlap g h k writes other_reads other_writes → first ≡ true
    → first ≡ keys_conflict (record { read = map f reads; written = map g writes }) (record { read = map h other_reads; written = map k other_writes })
conflict_first f g h k reads writes other_reads other_writes first is holds =
    holds ∙ sym (ap (λ b. b || keys_overwrite (record { read = map h other_reads; written = map k other_writes }) (record { read = map f reads; written = map g writes }))
    (sym (overlap_mapped g h k writes other_reads other_writes) ∙ sym is ∙ holds))

pub conflict_second : {X Y Z W : Type 0} (f : X → List ℕ) (g : Y → List ℕ) (h : Z → List ℕ) (k : W → List ℕ) (reads : List X) (writes : List Y)
    (other_reads : List Z) (other_writes : List W) (first second : Bool) → first ≡ overlap g h k writes other_reads other_writes → first ≡ false
    → second ≡ overlap k f g other_writes reads writes
    → second ≡ keys_conflict (record { read = map f reads; written = map g writes }) (record { read = map h other_reads; written = map k other_writes })
conflict_second f g h k reads writes other_reads other_writes first second is fails later =
    or_of false second (list_any (λ key. contains_text (map h other_reads) key || contains_text (map k other_writes) key) (map g writes))
    (list_any (λ key. contains_text (map f reads) key || contains_text (map g writes) key) (map k other_writes))
    (sym fails ∙ is ∙ overlap_mapped g h k writes other_reads other_writes)
    (later ∙ overlap_mapped k f g other_writes reads writes)
