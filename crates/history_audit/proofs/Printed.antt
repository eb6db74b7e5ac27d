-- What is printed: keys are texts, and the values have no float and are shallow, so their texts are known and read again.
use Rattle.std.proofs.Common.{◌≡◌, ℕ, ◌+◌, ◌<◌, ◌≤◌, inl, inr, Bool, true, false, ◌||◌, List, [], ◌∷◌, length, get_or, map, refl, ap, arith}
use Rattle.std.specs.Str.{IsUtf8}
use Rattle.std.proofs.lemmas.Str.{IsUtf8-from_ascii}
use Rattle.std.proofs.lemmas.Bool.{cases_lt}
use Rattle.std.proofs.lemmas.List.{get_or_past}
use Rattle.std.proofs.lemmas.List.Elements.{All-get_or}
use Rattle.helios_model.specs.Texts.{IsKey, IsKeyByte}
use Rattle.helios_model.specs.declared.records.CommitEvent.{CommitEvent}
use Rattle.helios_model.specs.declared.records.Record.{Record}
use Rattle.helios_model.specs.declared.records.Record.TheVariants.{Prepare, Commit, Abort}
use Rattle.helios_model.specs.declared.transactions.WriteItem.{WriteItem}
use Rattle.serde_json.specs.Data.{Data, string, array, depth, items_depth}
use Rattle.serde_json.specs.View.{items_of}
use Rattle.serde_json.specs.Written.{has_float, items_have_float}
use Rattle.history_audit.specs.Printing.{array_data, history_data, item_data, item_members, item_of, read_data}
use Rattle.history_audit.specs.Recorded.{abort_members, commit_members, log_members, prepare_members, record_data, records_data, write_data}
use Rattle.history_audit.specs.declared.history.Item.{Item}

byte_of_key : (key : List ℕ) → IsKey key → (i : ℕ) → get_or key i 0 < 128
byte_of_key key is i = elim (cases_lt i (length key)) [
  | inl within ↦ (let here : IsKeyByte (get_or key i 0) = All-get_or IsKeyByte key i 0 within is.printable in let most : get_or key i 0 ≤ 126 = here.1 in omega arith)
  | inr past ↦ (let none : get_or key i 0 ≡ 0 = get_or_past key i 0 past in omega arith)
]

pub key_is_text : (key : List ℕ) → IsKey key → IsUtf8 key
key_is_text key is = IsUtf8-from_ascii key (byte_of_key key is)

-- the keys of some writes, each printed as a text
keys_of : (writes : List WriteItem) → map (λ w. string w.key) writes ≡ map string (map (λ w. w.key) writes)
keys_of [] = refl
keys_of (w ∷ ws) = ap (λ ds. string w.key ∷ ds) (keys_of ws)

pub keys_printed : (writes : List WriteItem) → array_data (λ w. string w.key) writes ≡ array_data string (map (λ w. w.key) writes)
keys_printed writes = ap (λ ds. array (items_of ds)) (keys_of writes)

-- ---- no float

neither : (b c : Bool) → b ≡ false → c ≡ false → (b || c) ≡ false
neither true c first second = cc
neither false c first second = second

items_float : {X : Type 0} (f : X → Data) → ((x : X) → has_float (f x) ≡ false) → (xs : List X) → items_have_float (items_of (map f xs)) ≡ false
items_float f none [] = refl
items_float f none (x ∷ xs) = neither (has_float (f x)) (items_have_float (items_of (map f xs))) (none x) (items_float f none xs)

item_float : (x : Item) → has_float (item_data x) ≡ false
unfolding item_members
item_float x =
    neither (has_float (array_data read_data x.reads)) _ (items_float read_data (λ r. refl) x.reads)
    (neither (has_float (array_data string x.writes)) _ (items_float string (λ key. refl) x.writes) refl)

pub no_float : (events : List CommitEvent) → has_float (history_data events) ≡ false
no_float events = items_float (λ e. item_data (item_of e)) (λ e. item_float (item_of e)) events

record_float : (r : Record) → has_float (record_data r) ≡ false
unfolding prepare_members commit_members abort_members
record_float (Prepare p) =
    neither (has_float (array_data read_data p.reads)) _ (items_float read_data (λ r. refl) p.reads)
    (neither (has_float (array_data write_data p.writes)) _ (items_float write_data (λ w. refl) p.writes) refl)
record_float (Commit id time) = refl
record_float (Abort id time cause) = refl

pub log_no_float : (site : ℕ) (records : List Record) → has_float (records_data site records) ≡ false
unfolding log_members
log_no_float site records = neither (has_float (array_data record_data records)) _ (items_float record_data record_float records) refl

-- ---- how deep the values are

items_depth-le : {X : Type 0} (f : X → Data) (m : ℕ) → ((x : X) → depth (f x) ≤ m) → (xs : List X) → items_depth (items_of (map f xs)) ≤ m
items_depth-le f m low [] = omega arith
items_depth-le f m low (x ∷ xs) =
    let first : depth (f x) ≤ m = low x in
    let rest : items_depth (items_of (map f xs)) ≤ m = items_depth-le f m low xs in
    omega arith

array_depth : {X : Type 0} (f : X → Data) (m : ℕ) → ((x : X) → depth (f x) ≤ m) → (xs : List X) → depth (array_data f xs) ≤ m + 1
array_depth f m low xs = (let items : items_depth (items_of (map f xs)) ≤ m = items_depth-le f m low xs in omega arith)

item_depth : (x : Item) → depth (item_data x) ≤ 3
unfolding item_members
item_depth x =
    let reads : depth (array_data read_data x.reads) ≤ 2 = array_depth read_data 1 (λ r. omega arith) x.reads in
    let writes : depth (array_data string x.writes) ≤ 1 = array_depth string 0 (λ key. omega arith) x.writes in
    omega arith

pub shallow : (events : List CommitEvent) → depth (history_data events) ≤ 127
shallow events = (let low : depth (history_data events) ≤ 4 = array_depth (λ e. item_data (item_of e)) 3 (λ e. item_depth (item_of e)) events in omega arith)
