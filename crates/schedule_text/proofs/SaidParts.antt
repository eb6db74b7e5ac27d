-- What holds of the parts that a value says: ids, versions, keys, values and lists.
use Rattle.std.proofs.Common.{◌≡◌, ℕ, suc, ◌∙◌, ◌≤◌, ◌&&◌, Bool, true, false, not, List, [], ◌∷◌, ◌==◌, length, nat_lt, nat_le, Option, Some, None, option_map, option_and_then, All, IsTrue, if◌then◌else◌, refl, ap, subst, codes}
use Rattle.std.proofs.lemmas.Bool.{and_parts, eqb-false, leb-true, ltb-true, not-true}
use Rattle.std.proofs.lemmas.List.Elements.{All-cons, All-nil}
use Rattle.std.specs.List.{before_first, after_first, list_all}
use Rattle.std.specs.Str.{bytes_eq}
use Rattle.serde_json.specs.Data.{Data, Items, item, no_items}
use Rattle.serde_json.specs.Events.{items_len}
use Rattle.serde_json.specs.Find.{as_str}
use Rattle.helios_model.specs.declared.ids.TxnId.{TxnId}
use Rattle.helios_model.specs.declared.ids.Version.{Version}
use Rattle.helios_model.specs.declared.ids.Version.TheVariants.{Initial, Of}
use Rattle.helios_model.specs.declared.transactions.PutItem.{PutItem}
use Rattle.helios_model.specs.Texts.{IsKey, IsKeyByte, IsValue, all_differ}
use Rattle.helios_model.specs.Limits.{last_time, most_items, most_key_bytes, most_sites, most_value_bytes}
use Rattle.helios_model.specs.Spellings.{id_from, id_of, is_at, is_key, is_key_byte, key_of, number_of, value_of, version_of}
use Rattle.helios_model.specs.Spellable.{IsSpellableId, IsSpellableVersion}
use Rattle.json_text.specs.Lists.{each_of, parts_of}
use Rattle.json_text.specs.Members.{pair_at}
use Rattle.json_text.specs.Spelled.{id_at, key_at, value_at, version_at}
use Rattle.json_text.specs.Transactions.{differing, keyed_of, put_at}

-- a value that comes of another that is there
pub bind_some : {A B : Type 0} (o : Option A) (f : A → Option B) (y : B) → option_and_then f o ≡ Some y → (x : A) × ((o ≡ Some x) × (f x ≡ Some y))
bind_some None f y e = cc
bind_some (Some x) f y e = (x, (refl, e))

pub map_some : {A B : Type 0} (o : Option A) (f : A → B) (y : B) → option_map f o ≡ Some y → (x : A) × ((o ≡ Some x) × (f x ≡ y))
map_some None f y e = cc
map_some (Some x) f y e = (x, (refl, cc))

pub some_injective : {A : Type 0} (x y : A) → Some x ≡ Some y → x ≡ y
some_injective x y e = cc

-- a value that comes only where a test holds
pub guard_some : {A : Type 0} (b : Bool) (x y : A) → (if b then Some x else None) ≡ Some y → (b ≡ true) × (x ≡ y)
guard_some true x y e = (refl, cc)
guard_some false x y e = cc

chosen_some : {A : Type 0} (b : Bool) (o : Option A) (y : A) → (if b then o else None) ≡ Some y → (b ≡ true) × (o ≡ Some y)
chosen_some true o y e = (refl, e)
chosen_some false o y e = cc

pub unless_some : {A : Type 0} (b : Bool) (o : Option A) (y : A) → (if b then None else o) ≡ Some y → (b ≡ false) × (o ≡ Some y)
unless_some true o y e = cc
unless_some false o y e = (refl, e)

-- what holds of both choices holds of what is chosen
pub either_some : {A : Type 0} (P : A → Type 0) (b : Bool) (o q : Option A) → ((x : A) → o ≡ Some x → P x) → ((x : A) → q ≡ Some x → P x) → (x : A) → (if b then o else q) ≡ Some x → P x
either_some P true o q first second x e = first x e
either_some P false o q first second x e = second x e

-- what holds of all that the items of an array may say holds of each that they say
each_of_all : {T : Type 0} (said : Data → Option T) (P : T → Type 0) → ((d : Data) (x : T) → said d ≡ Some x → P x)
    → (items : Items) (xs : List T) → each_of said items ≡ Some xs → All P xs
each_of_all said P each no_items xs e = let same : [] ≡ xs = cc in subst (All P) same (All-nil P)
each_of_all said P each (item d ds) xs e =
    let first = bind_some (said d) (λ x. option_map (λ rest. x ∷ rest) (each_of said ds)) xs e in
    let rest = map_some (each_of said ds) (λ rest. first.0 ∷ rest) xs first.1.1 in
    subst (All P) rest.1.1 (All-cons P first.0 rest.0 (each d first.0 first.1.0) (each_of_all said P each ds rest.0 rest.1.0))

-- ---- ids and versions

id_from_limits : (site time : ℕ) (id : TxnId) → id_from site time ≡ Some id → IsSpellableId most_sites id
unfolding id_from
id_from_limits site time id e =
    let g = guard_some (nat_lt site most_sites && nat_le 1 time && nat_le time last_time) (record { site = site; time = time }) id e in
    let outer = and_parts (nat_lt site most_sites && nat_le 1 time) (nat_le time last_time) g.0 in
    let inner = and_parts (nat_lt site most_sites) (nat_le 1 time) outer.0 in
    subst (IsSpellableId most_sites) g.1 (record { here = ltb-true site most_sites inner.0; some = leb-true 1 time inner.1; last = leb-true time last_time outer.1 })

id_of_limits : (text : List ℕ) (id : TxnId) → id_of text ≡ Some id → IsSpellableId most_sites id
unfolding id_of
id_of_limits text id e =
    let site = bind_some (number_of (before_first is_at text)) (λ (s : ℕ). option_and_then (λ (t : ℕ). id_from s t) (number_of (after_first is_at text))) id e in
    let time = bind_some (number_of (after_first is_at text)) (λ (t : ℕ). id_from site.0 t) id site.1.1 in
    id_from_limits site.0 time.0 id time.1.1

pub id_limits : (d : Data) (id : TxnId) → id_at d ≡ Some id → IsSpellableId most_sites id
unfolding id_at
id_limits d id e = let text = bind_some (as_str d) id_of id e in id_of_limits text.0 id text.1.1

initial_or_id : (b : Bool) (found : Option TxnId) (v : Version) → ((id : TxnId) → found ≡ Some id → IsSpellableId most_sites id)
    → (if b then Some Initial else option_map Of found) ≡ Some v → IsSpellableVersion v
initial_or_id true found v limits e = let same : Initial ≡ v = cc in subst IsSpellableVersion same tt
initial_or_id false found v limits e = let m = map_some found Of v e in subst IsSpellableVersion m.1.1 (limits m.0 m.1.0)

pub version_limits : (d : Data) (v : Version) → version_at d ≡ Some v → IsSpellableVersion v
unfolding version_at version_of
version_limits d v e = let text = bind_some (as_str d) version_of v e in initial_or_id (bytes_eq text.0 (codes "initial")) (id_of text.0) v (λ id. id_of_limits text.0 id) text.1.1

-- ---- keys and values

key_byte_is : (b : ℕ) → is_key_byte b ≡ true → IsKeyByte b
key_byte_is b h =
    let outer = and_parts (nat_le 33 b && nat_le b 126) (not (b == 61)) h in
    let inner = and_parts (nat_le 33 b) (nat_le b 126) outer.0 in
    (leb-true 33 b inner.0, leb-true b 126 inner.1, eqb-false b 61 (not-true (b == 61) outer.1))

key_bytes_are : (bytes : List ℕ) → list_all is_key_byte bytes ≡ true → All IsKeyByte bytes
key_bytes_are [] h = All-nil IsKeyByte
key_bytes_are (b ∷ bytes) h =
    let parts = and_parts (is_key_byte b) (list_all is_key_byte bytes) h in
    All-cons IsKeyByte b bytes (key_byte_is b parts.0) (key_bytes_are bytes parts.1)

key_of_limits : (bytes key : List ℕ) → key_of bytes ≡ Some key → IsKey key
unfolding key_of
key_of_limits bytes key e =
    let g = guard_some (is_key bytes) bytes key e in
    let outer = and_parts (nat_le 1 (length bytes) && nat_le (length bytes) most_key_bytes) (list_all is_key_byte bytes) g.0 in
    let inner = and_parts (nat_le 1 (length bytes)) (nat_le (length bytes) most_key_bytes) outer.0 in
    subst IsKey g.1 (record { some = leb-true 1 (length bytes) inner.0; most = leb-true (length bytes) most_key_bytes inner.1; printable = key_bytes_are bytes outer.1 })

pub key_limits : (d : Data) (key : List ℕ) → key_at d ≡ Some key → IsKey key
unfolding key_at
key_limits d key e = let text = bind_some (as_str d) key_of key e in key_of_limits text.0 key text.1.1

value_of_limits : (bytes value : List ℕ) → value_of bytes ≡ Some value → IsValue value
unfolding value_of
value_of_limits bytes value e =
    let g = guard_some (nat_le (length bytes) most_value_bytes) bytes value e in
    subst IsValue g.1 (leb-true (length bytes) most_value_bytes g.0)

value_limits : (d : Data) (value : List ℕ) → value_at d ≡ Some value → IsValue value
unfolding value_at
value_limits d value e = let text = bind_some (as_str d) value_of value e in value_of_limits text.0 value text.1.1

-- ---- lists

-- a value for a key
pub record IsGivenPut (p : PutItem) : Type 0 where
  pub key : IsKey p.key
  pub value : IsValue p.value

pub put_given : (d : Data) (p : PutItem) → put_at d ≡ Some p → IsGivenPut p
unfolding put_at
put_given d p e =
    let pair = bind_some (pair_at d) (λ (x : Data × Data). option_and_then (λ (k : List ℕ). option_and_then (λ (v : List ℕ). Some (record { key = k; value = v })) (value_at x.1)) (key_at x.0)) p e in
    let key = bind_some (key_at pair.0.0) (λ (k : List ℕ). option_and_then (λ (v : List ℕ). Some (record { key = k; value = v })) (value_at pair.0.1)) p pair.1.1 in
    let value = bind_some (value_at pair.0.1) (λ (v : List ℕ). Some (record { key = key.0; value = v })) p key.1.1 in
    let made : PutItem = record { key = key.0; value = value.0 } in
    subst IsGivenPut {x = made} (some_injective made p value.1.1)
    (record { key = key_limits pair.0.0 key.0 key.1.0; value = value_limits pair.0.1 value.0 value.1.0 })

-- the items of a list of distinct keys, each as it is said
pub record AreKeyed {T : Type 0} (key : T → List ℕ) (P : T → Type 0) (items : List T) : Type 0 where
  pub few : length items ≤ most_items
  pub differ : IsTrue (all_differ key items)
  pub each : All P items

-- how many items an array has that was read
each_of_count : {T : Type 0} (said : Data → Option T) (items : Items) (xs : List T) → each_of said items ≡ Some xs → items_len items ≡ length xs
each_of_count said no_items xs e = let same : [] ≡ xs = cc in ap length same
each_of_count said (item d ds) xs e =
    let first = bind_some (said d) (λ x. option_map (λ rest. x ∷ rest) (each_of said ds)) xs e in
    let rest = map_some (each_of said ds) (λ rest. first.0 ∷ rest) xs first.1.1 in
    ap suc (each_of_count said ds rest.0 rest.1.0) ∙ ap length rest.1.1

pub record AreParts {T : Type 0} (most : ℕ) (P : T → Type 0) (items : List T) : Type 0 where
  pub few : length items ≤ most
  pub each : All P items

pub parts_limits : {T : Type 0} (most : ℕ) (said : Data → Option T) (P : T → Type 0) → ((d : Data) (x : T) → said d ≡ Some x → P x)
    → (items : Items) (xs : List T) → parts_of most said items ≡ Some xs → AreParts most P xs
unfolding parts_of
parts_limits most said P holds items xs e =
    let within = chosen_some (nat_le (items_len items) most) (each_of said items) xs e in
    let count : items_len items ≡ length xs = each_of_count said items xs within.1 in
    record { few = subst (λ (n : ℕ). n ≤ most) count (leb-true (items_len items) most within.0); each = each_of_all said P holds items xs within.1 }

pub keyed_limits : {T : Type 0} (key : T → List ℕ) (said : Data → Option T) (P : T → Type 0) → ((d : Data) (x : T) → said d ≡ Some x → P x)
    → (items : Items) (xs : List T) → keyed_of key said items ≡ Some xs → AreKeyed key P xs
unfolding keyed_of
keyed_limits key said P holds items xs e =
    let found = bind_some (parts_of most_items said items) (differing key) xs e in
    let differ = guard_some (all_differ key found.0) found.0 xs found.1.1 in
    let parts = parts_limits most_items said P holds items found.0 found.1.0 in
    subst (AreKeyed key P) differ.1 (record { few = parts.few; differ = differ.0; each = parts.each })
