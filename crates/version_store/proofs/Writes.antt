-- What keys hold after a transaction's writes, the first write of each key being the last that is written.
use Rattle.std.proofs.Common.{◌≡◌, ℕ, List, [], ◌∷◌, Bool, true, false, Option, Some, cond, find, map, if◌then◌else◌, refl, sym, ap, ◌∙◌, subst}
use Rattle.std.specs.Ordering.{nat_cmp}
use Rattle.std.specs.Cmp.Lexicographic.{slice_cmp, texts_ties}
use Rattle.std.specs.BTreeMap.{is_at}
use Rattle.helios_model.specs.declared.ids.TxnId.{TxnId}
use Rattle.helios_model.specs.declared.ids.Version.TheVariants.{Of}
use Rattle.helios_model.specs.declared.transactions.WriteItem.{WriteItem}
use Rattle.helios_model.specs.Texts.{contains_text, same_text}
use Rattle.version_store.specs.declared.held.Held.{Held}
use Rattle.version_store.specs.Store.{held_after, held_at, version_in, version_of, written_over}
use Rattle.version_store.specs.Places.{GetsPlace}

write_case : (id : TxnId) (first : WriteItem) (rest : List WriteItem) (made : Bool) (old placed written new : List (List ℕ × Held))
    → GetsPlace first.key made old placed
    → ((q : List ℕ) → held_at written q ≡ held_after id rest (held_at placed q) q) → (q : List ℕ) (b : Bool)
    → is_at (slice_cmp nat_cmp first.key) q ≡ b → same_text first.key q ≡ b
    → held_at new q ≡ cond b (Some (record { id = id; value = first.value })) (held_at written q)
    → held_at new q ≡ held_after id (first ∷ rest) (held_at old q) q
write_case id first rest made old placed written new place behind q true at same then_new = rw same then_new
write_case id first rest made old placed written new place behind q false at same then_new =
    rw same (then_new ∙ (behind q ∙ ap (λ held. written_over id held (find (λ w. same_text w.key q) rest)) (place.others q at)))

-- a write of a key that has a place, behind the writes that follow it
pub write_step : (id : TxnId) (first : WriteItem) (rest writes : List WriteItem) (value : List ℕ) (made : Bool) (old placed written new : List (List ℕ × Held))
    → writes ≡ first ∷ rest → value ≡ first.value → GetsPlace first.key made old placed
    → ((q : List ℕ) → held_at written q ≡ held_after id rest (held_at placed q) q)
    → ((q : List ℕ) → held_at new q ≡ cond (is_at (slice_cmp nat_cmp first.key) q) (Some (record { id = id; value = value })) (held_at written q))
    → (q : List ℕ) → held_at new q ≡ held_after id writes (held_at old q) q
write_step id first rest writes value made old placed written new all same place behind put q =
    let here : held_at new q ≡ cond (is_at (slice_cmp nat_cmp first.key) q) (Some (record { id = id; value = first.value })) (held_at written q) =
    subst (λ v. held_at new q ≡ cond (is_at (slice_cmp nat_cmp first.key) q) (Some (record { id = id; value = v })) (held_at written q)) same (put q) in
    subst (λ ws. held_at new q ≡ held_after id ws (held_at old q) q) (sym all)
    (write_case id first rest made old placed written new place behind q _ refl (texts_ties first.key q) here)

version_case : (id : TxnId) (w : WriteItem) (ws : List WriteItem) (before : Option Held) (key : List ℕ) (b : Bool) → same_text w.key key ≡ b
    → version_of (held_after id ws before key) ≡ (if contains_text (map (λ w. w.key) ws) key then Of id else version_of before)
    → version_of (held_after id (w ∷ ws) before key) ≡ (if contains_text (map (λ w. w.key) (w ∷ ws)) key then Of id else version_of before)
version_case id w ws before key true same rest = rw same refl
version_case id w ws before key false same rest = rw same rest

-- after the writes the version of a key that is among them is their transaction's id
pub version_after_writes : (id : TxnId) (writes : List WriteItem) (before : Option Held) (key : List ℕ)
    → version_of (held_after id writes before key) ≡ (if contains_text (map (λ w. w.key) writes) key then Of id else version_of before)
version_after_writes id [] before key = refl
version_after_writes id (w ∷ ws) before key = version_case id w ws before key _ refl (version_after_writes id ws before key)

-- the same of the store's entries, as a caller sees them
pub versions_after : (id : TxnId) (given writes : List WriteItem) (places old new : List (List ℕ × Held)) → given ≡ writes → places ≡ old
    → ((q : List ℕ) → held_at new q ≡ held_after id given (held_at places q) q)
    → (key : List ℕ) → version_in new key ≡ (if contains_text (map (λ w. w.key) writes) key then Of id else version_in old key)
versions_after id given writes places old new same view written key =
    let said : held_at new key ≡ held_after id writes (held_at old key) key =
    subst (λ ws. held_at new key ≡ held_after id ws (held_at old key) key) same
    (subst (λ es. held_at new key ≡ held_after id given (held_at es key) key) view (written key)) in
    ap version_of said ∙ version_after_writes id writes (held_at old key) key
