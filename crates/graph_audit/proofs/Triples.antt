-- Arrays of three items, as the list of their values has them.
use Rattle.std.proofs.Common.{◌≡◌, ◌≢◌, List, [], ◌∷◌, Some, None, length, get_or, refl, arith}
use Rattle.serde_json.specs.View.{view, items_view}
use Rattle.serde_json.specs.declared.value.Value.{Value}
use Rattle.graph_audit.specs.Records.{item_triple}

pub of_three : (vs : List Value) (c d e : Value) → length vs ≡ 3 → item_triple (items_view vs) ≡ Some (view (get_or vs 0 c), view (get_or vs 1 d), view (get_or vs 2 e))
of_three [] c d e h = absurd (omega arith)
of_three (v ∷ []) c d e h = absurd (omega arith)
of_three (v ∷ w ∷ []) c d e h = absurd (omega arith)
of_three (v ∷ w ∷ x ∷ []) c d e h = refl
of_three (v ∷ w ∷ x ∷ y ∷ ys) c d e h = absurd (omega arith)

pub of_others : (vs : List Value) → length vs ≢ 3 → item_triple (items_view vs) ≡ None
of_others [] h = refl
of_others (v ∷ []) h = refl
of_others (v ∷ w ∷ []) h = refl
of_others (v ∷ w ∷ x ∷ []) h = absurd (h refl)
of_others (v ∷ w ∷ x ∷ y ∷ ys) h = refl
