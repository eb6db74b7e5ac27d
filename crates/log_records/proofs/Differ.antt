-- Lists whose items were read one after another: how many they are, and that their keys differ.
use Rattle.std.proofs.Common.{◌≡◌, ℕ, zero, suc, ◌+◌, ◌≤◌, ◌&&◌, ◌||◌, Bool, true, false, not, List, [], ◌∷◌, ◌++◌, length, Result, Ok, Err, refl, subst, take, drop, ltb, leb, ◌-◌, arith, length-append}
use Rattle.std.specs.List.{list_any}
use Rattle.std.proofs.lemmas.Bool.{leb-true}
use Rattle.std.proofs.lemmas.List.Folds.{list_any-append}
use Rattle.helios_model.specs.declared.transactions.ReadItem.{ReadItem}
use Rattle.helios_model.specs.declared.transactions.WriteItem.{WriteItem}
use Rattle.helios_model.specs.Limits.{most_items, most_key_bytes}
use Rattle.helios_model.specs.Spellings.{is_key}
use Rattle.helios_model.specs.Texts.{all_differ, same_text}
use Rattle.helios_model.specs.Transactions.{IsTransaction}
use Rattle.log_records.specs.declared.faults.DecodeFault.{DecodeFault}
use Rattle.log_records.specs.declared.faults.DecodeFault.TheVariants.{Cut, Bad}
use Rattle.log_records.specs.Fields.{◌>>=◌, is_within, byte_at, text_at, each_after}
use Rattle.log_records.specs.Ids.{version_at}
use Rattle.log_records.specs.Keys.{key_at, value_at}
use Rattle.log_records.specs.Items.{is_given, list_at, read_at, reads_at, write_at, writes_at}
use Rattle.log_records.proofs.Fields.{ruled_ok}

-- the value of a step that did not fail
pub bind_ok : {A B : Type 0} (r : Result A DecodeFault) (next : A → Result B DecodeFault) (y : B) → (r >>= next) ≡ Ok y → (x : A) × (r ≡ Ok x) × (next x ≡ Ok y)
bind_ok (Ok x) next y e = (x, refl, e)
bind_ok (Err fault) next y e = absurd cc

abbrev done : {A : Type 0} → A → Result A DecodeFault
done x = Ok x

pub ok_is : {A : Type 0} (x y : A) → done x ≡ done y → x ≡ y
ok_is x y e = cc

pub and_true : (a b : Bool) → (a && b) ≡ true → (a ≡ true) × (b ≡ true)
and_true true true e = (refl, refl)
and_true true false e = absurd cc
and_true false b e = absurd cc

pub not_true : (a : Bool) → not a ≡ true → a ≡ false
not_true true e = absurd cc
not_true false e = refl

pub or_false : (a b : Bool) → (a || b) ≡ false → (a ≡ false) × (b ≡ false)
or_false true b e = absurd cc
or_false false b e = (refl, e)

pub within : (least most n : ℕ) → is_within least most n ≡ true → (least ≤ n) × (n ≤ most)
within least most n e = let p = and_true (leb least n) (leb n most) e in (leb-true least n p.0, leb-true n most p.1)

pub byte_ruled : (rule : ℕ → Bool) (whole : ℕ) (bytes : List ℕ) (y : ℕ × List ℕ) → byte_at rule whole bytes ≡ Ok y → (rule y.0 ≡ true) × (bytes ≡ y.0 ∷ y.1)
unfolding byte_at
byte_ruled rule whole [] y e = absurd cc
byte_ruled rule whole (b ∷ rest) y e =
    let made : ℕ × List ℕ = (b, rest) in
    let t = ruled_ok false (rule b) made y (Bad (whole - length (b ∷ rest))) Cut e in
    subst (λ (p : ℕ × List ℕ). (rule p.0 ≡ true) × ((b ∷ rest) ≡ p.0 ∷ p.1)) t.2 (t.1, refl)

text_ruled : (rule : List ℕ → Bool) (n whole : ℕ) (bytes : List ℕ) (y : List ℕ × List ℕ) → text_at rule n whole bytes ≡ Ok y → rule y.0 ≡ true
unfolding text_at
text_ruled rule n whole bytes y e =
    let made : List ℕ × List ℕ = (take n bytes, drop n bytes) in
    let t = ruled_ok (ltb (length bytes) n) (rule (take n bytes)) made y (Bad (whole - length bytes)) Cut e in
    subst (λ (p : List ℕ × List ℕ). rule p.0 ≡ true) t.2 t.1

pub key_fresh : (given : List ℕ → Bool) (whole : ℕ) (bytes : List ℕ) (y : List ℕ × List ℕ) → key_at given whole bytes ≡ Ok y → given y.0 ≡ false
unfolding key_at
key_fresh given whole bytes y e =
    let a = bind_ok (byte_at (is_within 1 most_key_bytes) whole bytes) (λ n. text_at (λ k. is_key k && not (given k)) n.0 whole n.1) y e in
    let r = text_ruled (λ k. is_key k && not (given k)) a.0.0 whole a.0.1 y a.2 in
    not_true (given y.0) (and_true (is_key y.0) (not (given y.0)) r).1

pub differ_push : {X : Type 0} (key : X → List ℕ) (xs : List X) (x : X) → all_differ key xs ≡ true → is_given key xs (key x) ≡ false → all_differ key (xs ++ x ∷ []) ≡ true
differ_push key [] x d f = refl
differ_push key (y ∷ ys) x d f =
    let p = and_true (not (list_any (λ other. same_text (key other) (key y)) ys)) (all_differ key ys) d in
    let q = or_false (same_text (key x) (key y)) (list_any (λ item. same_text (key x) (key item)) ys) f in
    rw (list_any-append (λ other. same_text (key other) (key y)) ys (x ∷ []), not_true _ p.0, q.0, differ_push key ys x p.1 q.1) refl

-- an item whose key was not given before
abbrev pub IsFresh : {X : Type 0} → (X → List ℕ) → (List X → List ℕ → Result (X × List ℕ) DecodeFault) → Type 0
IsFresh {X} key item = (before : List X) (bytes : List ℕ) (y : X × List ℕ) → item before bytes ≡ Ok y → is_given key before (key y.0) ≡ false

pub each_keeps : {X : Type 0} (key : X → List ℕ) (item : List X → List ℕ → Result (X × List ℕ) DecodeFault) → IsFresh key item → (n : ℕ) (before : List X) (bytes : List ℕ) (y : List X × List ℕ) → all_differ key before ≡ true
    → each_after item n before bytes ≡ Ok y → (all_differ key y.0 ≡ true) × (length y.0 ≡ length before + n)
unfolding each_after
each_keeps {X} key item fresh zero before bytes y d e =
    let made : List X × List ℕ = (before, bytes) in
    subst (λ (p : List X × List ℕ). (all_differ key p.0 ≡ true) × (length p.0 ≡ length before + 0)) (ok_is made y e) (d, omega arith)
each_keeps {X} key item fresh (suc n) before bytes y d e =
    let a = bind_ok (item before bytes) (λ x. each_after item n (before ++ x.0 ∷ []) x.1) y e in
    let r = each_keeps key item fresh n (before ++ a.0.0 ∷ []) a.0.1 y (differ_push key before a.0.0 d (fresh before bytes a.0 a.1)) a.2 in
    (r.0, omega (arith, r.1, length-append before (a.0.0 ∷ [])))

-- at most so many, with distinct keys
pub record AreFew {X : Type 0} (key : X → List ℕ) (xs : List X) : Type 0 where
  pub few : length xs ≤ most_items
  pub differ : all_differ key xs ≡ true

pub list_keeps : {X : Type 0} (key : X → List ℕ) (item : List X → List ℕ → Result (X × List ℕ) DecodeFault) → IsFresh key item → (whole : ℕ) (bytes : List ℕ) (y : List X × List ℕ) → list_at item whole bytes ≡ Ok y → AreFew key y.0
list_keeps key item fresh whole bytes y e =
    let a = bind_ok (byte_at (is_within 0 most_items) whole bytes) (λ n. each_after item n.0 [] n.1) y e in
    let n = within 0 most_items a.0.0 (byte_ruled (is_within 0 most_items) whole bytes a.0 a.1).0 in
    let r = each_keeps key item fresh a.0.0 [] a.0.1 y refl a.2 in
    record { few = omega (arith, n.1, r.1); differ = r.0 }

pub read_fresh : (whole : ℕ) → IsFresh (λ r. r.key) (read_at whole)
unfolding read_at
read_fresh whole before bytes y e =
    let a = bind_ok (key_at (is_given (λ (r : ReadItem). r.key) before) whole bytes) (λ key. version_at whole key.1 >>= λ version. Ok (record { key = key.0; version = version.0 }, version.1)) y e in
    let b = bind_ok (version_at whole a.0.1) (λ version. Ok (record { key = a.0.0; version = version.0 }, version.1)) y a.2 in
    let made : ReadItem × List ℕ = (record { key = a.0.0; version = b.0.0 }, b.0.1) in
    subst (λ (p : ReadItem × List ℕ). is_given (λ (r : ReadItem). r.key) before p.0.key ≡ false) (ok_is made y b.2) (key_fresh (is_given (λ (r : ReadItem). r.key) before) whole bytes a.0 a.1)

pub write_fresh : (whole : ℕ) → IsFresh (λ w. w.key) (write_at whole)
unfolding write_at
write_fresh whole before bytes y e =
    let a = bind_ok (key_at (is_given (λ (w : WriteItem). w.key) before) whole bytes) (λ key. value_at whole key.1 >>= λ value. version_at whole value.1 >>= λ over. Ok (record { key = key.0; value = value.0; over = over.0 }, over.1)) y e in
    let b = bind_ok (value_at whole a.0.1) (λ value. version_at whole value.1 >>= λ over. Ok (record { key = a.0.0; value = value.0; over = over.0 }, over.1)) y a.2 in
    let d = bind_ok (version_at whole b.0.1) (λ over. Ok (record { key = a.0.0; value = b.0.0; over = over.0 }, over.1)) y b.2 in
    let made : WriteItem × List ℕ = (record { key = a.0.0; value = b.0.0; over = d.0.0 }, d.0.1) in
    subst (λ (p : WriteItem × List ℕ). is_given (λ (w : WriteItem). w.key) before p.0.key ≡ false) (ok_is made y d.2) (key_fresh (is_given (λ (w : WriteItem). w.key) before) whole bytes a.0 a.1)

-- what was read keeps the limits of a transaction
pub keeps_limits : (whole : ℕ) (bytes : List ℕ) (reads : List ReadItem) (between : List ℕ) (writes : List WriteItem) (rest : List ℕ) → reads_at whole bytes ≡ Ok (reads, between) → writes_at whole between ≡ Ok (writes, rest) → IsTransaction reads writes
unfolding reads_at writes_at
keeps_limits whole bytes reads between writes rest e f =
    let r = list_keeps (λ (r : ReadItem). r.key) (read_at whole) (read_fresh whole) whole bytes (reads, between) e in
    let w = list_keeps (λ (w : WriteItem). w.key) (write_at whole) (write_fresh whole) whole between (writes, rest) f in
    record { few_reads = r.few; few_writes = w.few; reads_differ = r.differ; writes_differ = w.differ }
