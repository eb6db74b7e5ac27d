-- The items of an array, one after another.
use Rattle.std.specs.Prelude.{ℕ, ◌+◌, List, [], ◌∷◌, Option, Some, None, option_and_then, option_map, Result, Ok, Err, nat_le, if◌then◌else◌}
use Rattle.serde_json.specs.Data.{Data, Items, no_items, item}
use Rattle.serde_json.specs.Events.{items_len}
use Rattle.json_text.specs.Reading.{◌>>=◌, demand}

-- an item in front of those that follow, or the first refusal
abbrev pub put_first : {T E : Type 0} → Result T E → Result (List T) E → Result (List T) E
put_first (Ok x) (Ok xs) = Ok (x ∷ xs)
put_first (Ok x) (Err e) = Err e
put_first (Err e) rest = Err e

-- each item as f reads it at its place, from place i on, or the first refusal
abbrev pub items_from : {T E : Type 0} → (ℕ → Data → Result T E) → ℕ → Items → Result (List T) E
items_from f i no_items = Ok []
items_from f i (item d ds) = put_first (f i d) (items_from f (i + 1) ds)

-- at most so many items, each as f reads it at its place, or the first refusal
unfoldable pub list_of : {T E : Type 0} → ℕ → E → (ℕ → Data → Result T E) → Items → Result (List T) E
list_of most too_many f items = demand too_many (nat_le (items_len items) most) >>= λ few. items_from f 0 items

-- each item as f gives it, nothing where f gives nothing of some item
abbrev pub each_of : {T : Type 0} → (Data → Option T) → Items → Option (List T)
each_of f no_items = Some []
each_of f (item d ds) = option_and_then (λ x. option_map (λ xs. x ∷ xs) (each_of f ds)) (f d)

-- at most so many items, each as f gives it
unfoldable pub parts_of : {T : Type 0} → ℕ → (Data → Option T) → Items → Option (List T)
parts_of most f items = if nat_le (items_len items) most then each_of f items else None
