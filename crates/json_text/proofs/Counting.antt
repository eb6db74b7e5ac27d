-- How many items an array has, and that all of them are read.
use Rattle.std.proofs.Common.{◌≡◌, List, ◌∷◌, Option, Some, None, length, refl, ◌∙◌, ap, cond, arith}
use Rattle.std.specs.Prelude.{option_map, option_and_then}
use Rattle.std.proofs.lemmas.Bool.{le-leb}
use Rattle.json_text.specs.Lists.{each_of, parts_of}
use Rattle.serde_json.specs.Data.{Data, Items, no_items, item}
use Rattle.serde_json.specs.Events.{items_len}
use Rattle.serde_json.specs.View.{items_view}
use Rattle.serde_json.specs.declared.value.Value.{Value}
use Rattle.serde_json.proofs.Views.{items_len-items_view}

-- where each item is read, there are as many
each_len : {T : Type 0} (f : Data → Option T) (items : Items) (xs : List T) → each_of f items ≡ Some xs → length xs ≡ items_len items
each_len f no_items xs is = cc
each_len {T} f (item d ds) xs is = by_first (each_len f ds) (f d) (each_of f ds) refl is
  where
    by_rest : ((ys : List T) → each_of f ds ≡ Some ys → length ys ≡ items_len ds) → (x : T) (rest : Option (List T)) → each_of f ds ≡ rest → option_map (λ ys. x ∷ ys) rest ≡ Some xs → length xs ≡ items_len (item d ds)
    by_rest shorter x None here is = cc
    by_rest shorter x (Some ys) here is =
        let more : length ys ≡ items_len ds = shorter ys here in
        let same : x ∷ ys ≡ xs = cc in
        let long : length (x ∷ ys) ≡ length xs = ap length same in
        omega arith

    by_first : ((ys : List T) → each_of f ds ≡ Some ys → length ys ≡ items_len ds) → (first : Option T) (rest : Option (List T)) → each_of f ds ≡ rest → option_and_then (λ x. option_map (λ ys. x ∷ ys) rest) first ≡ Some xs → length xs ≡ items_len (item d ds)
    by_first shorter None rest here is = cc
    by_first shorter (Some x) rest here is = by_rest shorter x rest here is

pub read_len : {T : Type 0} (f : Data → Option T) (values : List Value) (xs : List T) → each_of f (items_view values) ≡ Some xs → length xs ≡ length values
read_len f values xs is = each_len f (items_view values) xs is ∙ items_len-items_view values

-- among at most so many, all
pub parts_of_all : {T : Type 0} (f : Data → Option T) (values : List Value) → parts_of (length values) f (items_view values) ≡ each_of f (items_view values)
unfolding parts_of
parts_of_all f values = ap (λ b. cond b (each_of f (items_view values)) None) (le-leb (items_len (items_view values)) (length values) (let same : items_len (items_view values) ≡ length values = items_len-items_view values in omega arith))
