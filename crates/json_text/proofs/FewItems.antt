-- Arrays of few items, as the list of their values has them.
use Rattle.std.specs.Prelude.{◌&&◌, Option, is_some, option_and_then, option_map}
use Rattle.std.specs.List.{list_all}
use Rattle.serde_json.specs.Data.{Data}
use Rattle.serde_json.specs.Find.{as_str}
use Rattle.json_text.specs.Lists.{each_of}
use Rattle.std.proofs.Common.{◌≡◌, ap, ◌∙◌, ◌≢◌, List, [], ◌∷◌, length, get_or, Some, None, refl, arith}
use Rattle.serde_json.specs.declared.value.Value.{Value}
use Rattle.serde_json.specs.View.{view, items_view}
use Rattle.json_text.specs.Members.{item_pair, lone_item}

pub lone_of_one : (vs : List Value) (d : Value) → length vs ≡ 1 → lone_item (items_view vs) ≡ Some (view (get_or vs 0 d))
lone_of_one [] d h = absurd (omega arith)
lone_of_one (v ∷ []) d h = refl
lone_of_one (v ∷ w ∷ ws) d h = absurd (omega arith)

pub lone_of_others : (vs : List Value) → length vs ≢ 1 → lone_item (items_view vs) ≡ None
lone_of_others [] h = refl
lone_of_others (v ∷ []) h = absurd (h refl)
lone_of_others (v ∷ w ∷ ws) h = refl

pub pair_of_two : (vs : List Value) (c d : Value) → length vs ≡ 2 → item_pair (items_view vs) ≡ Some (view (get_or vs 0 c), view (get_or vs 1 d))
pair_of_two [] c d h = absurd (omega arith)
pair_of_two (v ∷ []) c d h = absurd (omega arith)
pair_of_two (v ∷ w ∷ []) c d h = refl
pair_of_two (v ∷ w ∷ x ∷ xs) c d h = absurd (omega arith)

pub pair_of_others : (vs : List Value) → length vs ≢ 2 → item_pair (items_view vs) ≡ None
pair_of_others [] h = refl
pair_of_others (v ∷ []) h = refl
pair_of_others (v ∷ w ∷ []) h = absurd (h refl)
pair_of_others (v ∷ w ∷ x ∷ xs) h = refl

-- ---- items that are all read

rest_is : {T : Type 0} (first : Option T) (rest : Option (List T)) → (is_some first && is_some rest) ≡ is_some (option_and_then (λ x. option_map (λ xs. x ∷ xs) rest) first)
rest_is None rest = refl
rest_is (Some x) None = refl
rest_is (Some x) (Some xs) = refl

pub all_read : {T : Type 0} (f : Data → Option T) (vs : List Value) → list_all (λ v. is_some (f (view v))) vs ≡ is_some (each_of f (items_view vs))
all_read f [] = refl
all_read f (v ∷ vs) = ap (λ b. is_some (f (view v)) && b) (all_read f vs) ∙ rest_is (f (view v)) (each_of f (items_view vs))

pub all_texts : (vs : List Value) → list_all (λ v. is_some (as_str (view v))) vs ≡ is_some (each_of as_str (items_view vs))
all_texts vs = all_read as_str vs
