-- The Prepares of ids in order, each taken out of the map in turn.
use Rattle.std.proofs.Common.{◌≡◌, false, List, [], ◌∷◌, ◌++◌, Some, None, refl, sym, ◌∙◌, ap, ap₂, append_assoc}
use Rattle.std.specs.Prelude.{All}
use Rattle.std.specs.BTreeMap.{BTreeMap, get, is_at}
use Rattle.std.specs.List.{filter_map}
use Rattle.std.specs.List.Sorted.{IsStrictlySortedBy}
use Rattle.std.specs.Ordering.{is_eq}
use Rattle.std.specs.declared.cmp.Ordering.TheVariants.{Less}
use Rattle.std.proofs.lemmas.List.Elements.{All-head, All-tail}
use Rattle.std.proofs.lemmas.Map.Views.{All-after_first}
use Rattle.helios_model.specs.Transactions.{Transaction}
use Rattle.helios_model.specs.declared.ids.TxnId.{TxnId}
use Rattle.graph_audit.specs.Ordering.{id_cmp}

rest_stays : (id : TxnId) (m n : BTreeMap TxnId Transaction) → ((q : TxnId) → is_at (id_cmp id) q ≡ false → get id_cmp n q ≡ get id_cmp m q)
    → (ids : List TxnId) → All (λ q. id_cmp id q ≡ Less) ids → filter_map (get id_cmp n) ids ≡ filter_map (get id_cmp m) ids
rest_stays id m n others [] above = refl
rest_stays id m n others (q ∷ qs) above =
    ap₂ (λ o rest. Rattle.std.specs.List.cons_option o rest) (others q (ap is_eq (All-head (λ q. id_cmp id q ≡ Less) q qs above)))
    (rest_stays id m n others qs (All-tail (λ q. id_cmp id q ≡ Less) q qs above))

module _ (id : TxnId) (rest : List TxnId) (m n : BTreeMap TxnId Transaction) (front : List Transaction) (ordered : IsStrictlySortedBy id_cmp (id ∷ rest))
    (others : (q : TxnId) → is_at (id_cmp id) q ≡ false → get id_cmp n q ≡ get id_cmp m q) where
  same_rest : filter_map (get id_cmp n) rest ≡ filter_map (get id_cmp m) rest
  same_rest = rest_stays id m n others rest (All-after_first id_cmp id rest ordered)

  pub one_taken : (p : Transaction) (new : List Transaction) → get id_cmp m id ≡ Some p → new ≡ front ++ p ∷ []
      → new ++ filter_map (get id_cmp n) rest ≡ front ++ filter_map (get id_cmp m) (id ∷ rest)
  one_taken p new is pushed =
      ap₂ (λ xs ys. xs ++ ys) pushed same_rest
      ∙ append_assoc front (p ∷ []) (filter_map (get id_cmp m) rest)
      ∙ ap (λ o. front ++ Rattle.std.specs.List.cons_option o (filter_map (get id_cmp m) rest)) (sym is)

  pub none_taken : get id_cmp m id ≡ None → front ++ filter_map (get id_cmp n) rest ≡ front ++ filter_map (get id_cmp m) (id ∷ rest)
  none_taken is = ap (λ xs. front ++ xs) same_rest ∙ ap (λ o. front ++ Rattle.std.specs.List.cons_option o (filter_map (get id_cmp m) rest)) (sym is)
