-- The values of a row that a loop has made.
use Rattle.std.proofs.Common.{◌≡◌, ℕ, ◌+◌, List, [], ◌∷◌, ◌++◌, map, sym, ◌∙◌, ap, arith}
use Rattle.std.specs.List.{range_with_len}
use Rattle.std.proofs.lemmas.List.{map_push}
use Rattle.std.proofs.lemmas.List.FromFn.{map-range_with_len_more}
use Rattle.serde_json.specs.Data.{Data}
use Rattle.serde_json.specs.View.{view}
use Rattle.serde_json.specs.declared.value.Value.{Value}

-- one value more
pub one_more : (f : ℕ → Data) (values : List Value) (value : Value) (n : ℕ) → map view values ≡ map f (range_with_len 0 n) → view value ≡ f n → map view (values ++ value ∷ []) ≡ map f (range_with_len 0 (n + 1))
one_more f values value n so_far is =
    map_push view values value
    ∙ ap (λ ds. ds ++ view value ∷ []) so_far
    ∙ ap (λ d. map f (range_with_len 0 n) ++ d ∷ []) is
    ∙ sym (map-range_with_len_more f 0 n n (omega arith))
