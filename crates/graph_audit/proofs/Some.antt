-- An array has items or none.
use Rattle.std.proofs.Common.{◌≡◌, ◌<◌, ◌==◌, ◌∙◌, true, false, List, [], ◌∷◌, length, refl, ap, arith}
use Rattle.std.specs.Prelude.{not}
use Rattle.std.proofs.lemmas.Bool.{ne_eqb, not_from_false}
use Rattle.serde_json.proofs.Views.{items_len-items_view}
use Rattle.serde_json.specs.Events.{items_len}
use Rattle.serde_json.specs.View.{items_view}
use Rattle.serde_json.specs.declared.value.Value.{Value}

pub no_items : (vs : List Value) → length vs ≡ 0 → not (items_len (items_view vs) == 0) ≡ false
no_items [] none = refl
no_items (v ∷ vs) none = absurd (omega arith)

pub some_items : (vs : List Value) → 0 < length vs → not (items_len (items_view vs) == 0) ≡ true
some_items vs some = ap (λ n. not (n == 0)) (items_len-items_view vs) ∙ not_from_false (length vs == 0) (ne_eqb (length vs) 0 (λ none. absurd (omega (arith, none, some))))
