-- How many texts can name the sites of a cluster.
use Rattle.std.proofs.Common.{◌≡◌, ◌<◌, ◌≤◌, Bool, true, false, ◌&&◌, List, None, cond, length, refl, ◌∙◌, ap}
use Rattle.std.specs.Prelude.{nat_le, option_and_then}
use Rattle.std.proofs.lemmas.Bool.{le-leb, lt-leb, and_from}
use Rattle.helios_model.specs.Limits.{most_sites}
use Rattle.helios_model.specs.Naming.{is_count}
use Rattle.json_text.specs.Lists.{each_of}
use Rattle.serde_json.specs.Find.{as_str}
use Rattle.serde_json.specs.View.{items_view}
use Rattle.serde_json.specs.declared.value.Value.{Value}
use Rattle.serde_json.proofs.Views.{items_len-items_view}
use Rattle.commit_offsets.specs.Forms.{are_good, names_in, passing}

second_false : (b c : Bool) → c ≡ false → (b && c) ≡ false
second_false true c second = second
second_false false c second = refl

decided : (texts : List Value) (b : Bool) → is_count (length texts) ≡ b → names_in (items_view texts) ≡ cond b (option_and_then (passing are_good) (each_of as_str (items_view texts))) None
unfolding names_in
decided texts b is =
    ap (λ n. cond (is_count n) (option_and_then (passing are_good) (each_of as_str (items_view texts))) None) (items_len-items_view texts)
    ∙ ap (λ b. cond b (option_and_then (passing are_good) (each_of as_str (items_view texts))) None) is

pub counted : (texts : List Value) → 1 ≤ length texts → length texts ≤ most_sites → names_in (items_view texts) ≡ option_and_then (passing are_good) (each_of as_str (items_view texts))
counted texts some few = decided texts true (and_from (nat_le 1 (length texts)) (nat_le (length texts) most_sites) (le-leb 1 (length texts) some) (le-leb (length texts) most_sites few))

pub too_few : (texts : List Value) → length texts ≡ 0 → names_in (items_view texts) ≡ None
too_few texts none = decided texts false (ap is_count none)

pub too_many : (texts : List Value) → most_sites < length texts → names_in (items_view texts) ≡ None
too_many texts many = decided texts false (second_false (nat_le 1 (length texts)) (nat_le (length texts) most_sites) (lt-leb (length texts) most_sites many))
