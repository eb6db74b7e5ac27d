-- All items of an array are read.
use Rattle.std.proofs.Common.{◌≡◌, List, Option, None, length, cond, ap, arith}
use Rattle.std.proofs.lemmas.Bool.{le-leb}
use Rattle.json_text.specs.Lists.{each_of, parts_of}
use Rattle.serde_json.proofs.Views.{items_len-items_view}
use Rattle.serde_json.specs.Data.{Data}
use Rattle.serde_json.specs.Events.{items_len}
use Rattle.serde_json.specs.View.{items_view}
use Rattle.serde_json.specs.declared.value.Value.{Value}

-- among at most so many, all
pub parts_of_all : {T : Type 0} (f : Data → Option T) (values : List Value) → parts_of (length values) f (items_view values) ≡ each_of f (items_view values)
unfolding parts_of
parts_of_all f values = ap (λ b. cond b (each_of f (items_view values)) None) (le-leb (items_len (items_view values)) (length values) (let same : items_len (items_view values) ≡ length values = items_len-items_view values in omega arith))
