-- A set of ids, kept in an order, has an id or not; and the values of a history that are left.
use Rattle.std.proofs.Common.{◌≡◌, Bool, true, false, ◌&&◌, ◌||◌, List, [], ◌∷◌, nat_eq, refl, ◌∙◌, ap, ap₂}
use Rattle.std.specs.BTreeSet.{insert_key}
use Rattle.std.specs.Ordering.{is_eq}
use Rattle.std.specs.declared.cmp.Ordering.{Ordering}
use Rattle.std.specs.declared.cmp.Ordering.TheVariants.{Less, Equal, Greater}
use Rattle.std.proofs.lemmas.Bool.{and_parts, eqb-true}
use Rattle.helios_model.specs.Ids.{same_id}
use Rattle.helios_model.specs.declared.ids.TxnId.{TxnId}
use Rattle.history_audit.specs.Items.{is_among}

same_as : (a b q : TxnId) → same_id a b ≡ true → same_id a q ≡ same_id b q
same_as a b q is =
    let parts : (nat_eq a.site b.site ≡ true) × (nat_eq a.time b.time ≡ true) = and_parts (nat_eq a.site b.site) (nat_eq a.time b.time) is in
    ap₂ (λ site time. nat_eq site q.site && nat_eq time q.time) (eqb-true a.site b.site parts.0) (eqb-true a.time b.time parts.1)

twice : (b c r : Bool) → b ≡ c → (c || r) ≡ (b || (c || r))
twice true true r is = refl
twice false false r is = refl
twice true false r is = cc
twice false true r is = cc

swapped : (a b r : Bool) → (a || (b || r)) ≡ (b || (a || r))
swapped true true r = refl
swapped true false r = refl
swapped false true r = refl
swapped false false r = refl

module _ (cmp : TxnId → TxnId → Ordering) (tied : (a b : TxnId) → same_id a b ≡ is_eq (cmp a b)) (id q : TxnId) where
  inserted : (ids : List TxnId) → is_among (insert_key cmp ids id) q ≡ (same_id id q || is_among ids q)
  inserted [] = refl
  inserted (x ∷ xs) = at_first x xs (cmp id x) refl (inserted xs)
    where
      at_first : (x : TxnId) (xs : List TxnId) (o : Ordering) → cmp id x ≡ o → is_among (insert_key cmp xs id) q ≡ (same_id id q || is_among xs q)
          → is_among (insert_key cmp (x ∷ xs) id) q ≡ (same_id id q || is_among (x ∷ xs) q)
      at_first x xs Less is rest = rw is refl
      at_first x xs Equal is rest = rw is (twice (same_id id q) (same_id x q) (is_among xs q) (same_as id x q (tied id x ∙ ap is_eq is)))
      at_first x xs Greater is rest = rw is (ap (λ b. same_id x q || b) rest ∙ swapped (same_id x q) (same_id id q) (is_among xs q))

pub added_among : (cmp : TxnId → TxnId → Ordering) → ((a b : TxnId) → same_id a b ≡ is_eq (cmp a b)) → (old new : List TxnId) (id : TxnId) → new ≡ insert_key cmp old id
    → (q : TxnId) → is_among new q ≡ (same_id id q || is_among old q)
added_among cmp tied old new id is q = ap (λ ids. is_among ids q) is ∙ inserted cmp tied id q old
