-- What is read as lists of distinct keys keeps the limits of a transaction.
use Rattle.std.proofs.Common.{◌≡◌, ℕ, suc, ◌∙◌, ◌≤◌, Bool, true, false, List, [], ◌∷◌, length, nat_le, Option, Some, None, option_map, option_and_then, IsTrue, if◌then◌else◌, refl, ap, subst}
use Rattle.std.proofs.lemmas.Bool.{leb-true}
use Rattle.serde_json.specs.Data.{Data, Items, item, no_items}
use Rattle.serde_json.specs.Events.{items_len}
use Rattle.helios_model.specs.Limits.{most_items}
use Rattle.helios_model.specs.Texts.{all_differ}
use Rattle.helios_model.specs.Transactions.{IsTransaction}
use Rattle.helios_model.specs.declared.transactions.ReadItem.{ReadItem}
use Rattle.helios_model.specs.declared.transactions.WriteItem.{WriteItem}
use Rattle.json_text.specs.Lists.{each_of, parts_of}
use Rattle.json_text.specs.Transactions.{differing, keyed_of, read_at}
use Rattle.graph_audit.specs.Records.{write_at}

bind_some : {A B : Type 0} (o : Option A) (f : A → Option B) (y : B) → option_and_then f o ≡ Some y → (x : A) × ((o ≡ Some x) × (f x ≡ Some y))
bind_some None f y e = cc
bind_some (Some x) f y e = (x, (refl, e))

map_some : {A B : Type 0} (o : Option A) (f : A → B) (y : B) → option_map f o ≡ Some y → (x : A) × ((o ≡ Some x) × (f x ≡ y))
map_some None f y e = cc
map_some (Some x) f y e = (x, (refl, cc))

chosen_some : {A : Type 0} (b : Bool) (o : Option A) (y : A) → (if b then o else None) ≡ Some y → (b ≡ true) × (o ≡ Some y)
chosen_some true o y e = (refl, e)
chosen_some false o y e = cc

some_same : {A : Type 0} (x y : A) → Some x ≡ Some y → x ≡ y
some_same x y e = cc

each_count : {T : Type 0} (said : Data → Option T) (items : Items) (xs : List T) → each_of said items ≡ Some xs → items_len items ≡ length xs
each_count said no_items xs e = let same : [] ≡ xs = cc in ap length same
each_count said (item d ds) xs e =
    let first = bind_some (said d) (λ x. option_map (λ rest. x ∷ rest) (each_of said ds)) xs e in
    let rest = map_some (each_of said ds) (λ rest. first.0 ∷ rest) xs first.1.1 in
    ap suc (each_count said ds rest.0 rest.1.0) ∙ ap length rest.1.1

record IsKeyed {T : Type 0} (key : T → List ℕ) (items : List T) : Type 0 where
  few : length items ≤ most_items
  differ : IsTrue (all_differ key items)

keyed_is : {T : Type 0} (key : T → List ℕ) (said : Data → Option T) (items : Items) (xs : List T) → keyed_of key said items ≡ Some xs → IsKeyed key xs
unfolding keyed_of parts_of
keyed_is key said items xs e =
    let found = bind_some (parts_of most_items said items) (differing key) xs e in
    let differ = chosen_some (all_differ key found.0) (Some found.0) xs found.1.1 in
    let within = chosen_some (nat_le (items_len items) most_items) (each_of said items) found.0 found.1.0 in
    let few : length found.0 ≤ most_items = subst (λ (n : ℕ). n ≤ most_items) (each_count said items found.0 within.1) (leb-true (items_len items) most_items within.0) in
    subst (IsKeyed key) (some_same found.0 xs differ.1) (record { few = few; differ = differ.0 })

pub are_transaction : (reads : List ReadItem) (writes : List WriteItem) (rs ws : Items) → keyed_of (λ r. r.key) read_at rs ≡ Some reads → keyed_of (λ w. w.key) write_at ws ≡ Some writes
    → IsTransaction reads writes
are_transaction reads writes rs ws first second =
    let r = keyed_is (λ r. r.key) read_at rs reads first in
    let w = keyed_is (λ w. w.key) write_at ws writes second in
    record { few_reads = r.few; few_writes = w.few; reads_differ = r.differ; writes_differ = w.differ }
