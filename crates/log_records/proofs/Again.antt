-- What was written is read again, whatever follows it.
use Rattle.std.proofs.Common.{◌≡◌, ℕ, suc, ◌+◌, ◌^◌, ◌<◌, ◌≤◌, ◌==◌, ◌&&◌, ◌||◌, Bool, true, false, not, nat_lt, ltb, List, [], ◌∷◌, ◌++◌, length, All, Result, Ok, refl, sym, ap, ◌∙◌, append_assoc, arith, length-append}
use Rattle.std.specs.Bool.{Decides}
use Rattle.std.specs.List.{flat_map, list_all, list_any}
use Rattle.std.specs.Int.{Width, w16, w64, byte_len, from_be_bytes, to_be_bytes}
use Rattle.std.proofs.lemmas.Bool.{and_from, and_parts, eq-eqb, le-leb, le-ltb, leb-true, lt-ltb, ne_eqb, not-true, not_from_false}
use Rattle.std.proofs.lemmas.Bool.Decides.{Decides-by_and}
use Rattle.std.proofs.lemmas.List.{append-nil, drop_at, take_at}
use Rattle.std.proofs.lemmas.List.Concat.{flat_map-cons}
use Rattle.std.proofs.lemmas.List.Elements.{All-head, All-tail}
use Rattle.std.proofs.lemmas.List.Folds.{list_any-append}
use Rattle.std.proofs.lemmas.Nat.{from_be_bytes-to_be_bytes_2, from_be_bytes-to_be_bytes_8}
use Rattle.helios_model.specs.declared.ids.TxnId.{TxnId}
use Rattle.helios_model.specs.declared.ids.Version.{Version}
use Rattle.helios_model.specs.declared.ids.Version.TheVariants.{Initial, Of}
use Rattle.helios_model.specs.declared.transactions.ReadItem.{ReadItem}
use Rattle.helios_model.specs.declared.transactions.WriteItem.{WriteItem}
use Rattle.helios_model.specs.declared.records.Record.{Record}
use Rattle.helios_model.specs.declared.records.Record.TheVariants.{Prepare, Commit, Abort}
use Rattle.helios_model.specs.Limits.{last_time, most_items, most_key_bytes, most_sites, most_value_bytes}
use Rattle.helios_model.specs.Spellable.{IsSpellableId, IsSpellableVersion, AreSpellableReads, AreSpellableWrites, IsSpellablePrepare, IsSpellableRecord}
use Rattle.helios_model.specs.Spellings.{is_key, is_key_byte}
use Rattle.helios_model.specs.Texts.{IsKey, IsKeyByte, IsValue, all_differ, same_text}
use Rattle.helios_model.specs.Transactions.{Transaction}
use Rattle.log_records.specs.declared.faults.DecodeFault.{DecodeFault}
use Rattle.log_records.specs.Fields.{is_within, byte_at, number_at, text_at, each_after}
use Rattle.log_records.specs.Ids.{id_bytes, id_at, version_bytes, version_at}
use Rattle.log_records.specs.Keys.{key_bytes, key_at, value_bytes, value_at}
use Rattle.log_records.specs.Items.{is_given, list_bytes, list_at, read_bytes, read_at, reads_bytes, reads_at, write_bytes, write_at, writes_bytes, writes_at}
use Rattle.log_records.specs.Records.{prepare_bytes, record_bytes, prepare_behind, end_at, prepare_at, commit_at, abort_at, record_at}
use Rattle.log_records.proofs.Differ.{and_true, not_true, or_false}

-- ---- fields

pub record IsWide (w : Width) (limit : ℕ) : Type 0 where
  pub len : (n : ℕ) → length (to_be_bytes w n) ≡ byte_len w
  pub again : (n : ℕ) → n < limit → from_be_bytes w (to_be_bytes w n) ≡ n

pub wide16 : IsWide w16 (2 ^ 16)
wide16 = record { len = λ n. refl; again = λ n lt. from_be_bytes-to_be_bytes_2 n lt }

pub wide64 : IsWide w64 (2 ^ 64)
wide64 = record { len = λ n. refl; again = λ n lt. from_be_bytes-to_be_bytes_8 n lt }

pub within_true : (least most n : ℕ) → least ≤ n → n ≤ most → is_within least most n ≡ true
within_true least most n l m = and_from _ _ (le-leb least n l) (le-leb n most m)

pub byte_again : (rule : ℕ → Bool) (whole b : ℕ) (rest : List ℕ) → rule b ≡ true → byte_at rule whole (b ∷ rest) ≡ Ok (b, rest)
unfolding byte_at
byte_again rule whole b rest e = rw e refl

pub number_again : (w : Width) (limit : ℕ) (wide : IsWide w limit) (rule : ℕ → Bool) (whole n : ℕ) (rest : List ℕ) → n < limit → rule n ≡ true → number_at w rule whole (to_be_bytes w n ++ rest) ≡ Ok (n, rest)
unfolding number_at
number_again w limit wide rule whole n rest lt e =
    let len = wide.len n in
    let long : ltb (length (to_be_bytes w n ++ rest)) (byte_len w) ≡ false = le-ltb _ _ (omega (arith, length-append (to_be_bytes w n) rest)) in
    rw (long, take_at (to_be_bytes w n) rest (byte_len w) len, drop_at (to_be_bytes w n) rest (byte_len w) len, wide.again n lt, e) refl

pub text_again : (rule : List ℕ → Bool) (whole : ℕ) (text rest : List ℕ) → rule text ≡ true → text_at rule (length text) whole (text ++ rest) ≡ Ok (text, rest)
unfolding text_at
text_again rule whole text rest e =
    let long : ltb (length (text ++ rest)) (length text) ≡ false = le-ltb _ _ (omega (arith, length-append text rest)) in
    rw (long, take_at text rest (length text) refl, drop_at text rest (length text) refl, e) refl

-- ---- ids and versions

pub id_again : (count whole : ℕ) (id : TxnId) (rest : List ℕ) → IsSpellableId count id → id_at count whole (id_bytes id ++ rest) ≡ Ok (id, rest)
unfolding id_at
id_again count whole id rest h =
    let last = h.last in
    rw (
      byte_again (λ b. nat_lt b count) whole id.site (to_be_bytes w64 id.time ++ rest) (lt-ltb id.site count h.here),
      number_again w64 (2 ^ 64) wide64 (is_within 1 last_time) whole id.time rest (omega (arith, last)) (within_true 1 last_time id.time h.some h.last),
    ) refl

pub version_again : (whole : ℕ) (version : Version) (rest : List ℕ) → IsSpellableVersion version → version_at whole (version_bytes version ++ rest) ≡ Ok (version, rest)
unfolding version_at
version_again whole Initial rest h = rw (byte_again (is_within 0 1) whole 0 rest refl) refl
version_again whole (Of id) rest h = rw (byte_again (is_within 0 1) whole 1 (id_bytes id ++ rest) refl, id_again most_sites whole id rest h) refl

-- ---- keys and values

key_byte : (byte : ℕ) → Decides (is_key_byte byte) (IsKeyByte byte)
key_byte byte = (
  λ e. let outer = and_parts _ _ e in let inner = and_parts _ _ outer.0 in (leb-true 33 byte inner.0, leb-true byte 126 inner.1, λ is. let bad : (byte == 61) ≡ true = eq-eqb byte 61 is in let good = not-true _ outer.1 in cc),
  λ h. and_from _ _ (and_from _ _ (le-leb 33 byte h.0) (le-leb byte 126 h.1)) (not_from_false _ (ne_eqb byte 61 h.2)),
)

printable : (bytes : List ℕ) → Decides (list_all is_key_byte bytes) (All IsKeyByte bytes)
printable bytes = Decides-by_and is_key_byte IsKeyByte (list_all is_key_byte) key_byte refl (λ x xs. refl) bytes

pub is_key_true : (bytes : List ℕ) → IsKey bytes → is_key bytes ≡ true
is_key_true bytes h = and_from _ _ (and_from _ _ (le-leb 1 (length bytes) h.some) (le-leb (length bytes) 64 h.most)) ((printable bytes).1 h.printable)

pub key_from_test : (bytes : List ℕ) → is_key bytes ≡ true → IsKey bytes
key_from_test bytes e =
    let outer = and_parts _ _ e in let inner = and_parts _ _ outer.0 in
    record { some = leb-true 1 (length bytes) inner.0; most = leb-true (length bytes) 64 inner.1; printable = (printable bytes).0 outer.1 }

pub key_again : (given : List ℕ → Bool) (whole : ℕ) (key rest : List ℕ) → IsKey key → given key ≡ false → key_at given whole (key_bytes key ++ rest) ≡ Ok (key, rest)
unfolding key_at
key_again given whole key rest h fresh =
    rw (
      byte_again (is_within 1 most_key_bytes) whole (length key) (key ++ rest) (within_true 1 most_key_bytes (length key) h.some h.most),
      text_again (λ k. is_key k && not (given k)) whole key rest (and_from _ _ (is_key_true key h) (not_from_false _ fresh)),
    ) refl

pub value_again : (whole : ℕ) (value rest : List ℕ) → IsValue value → value_at whole (value_bytes value ++ rest) ≡ Ok (value, rest)
unfolding value_at
value_again whole value rest h =
    ap (value_at whole) (append_assoc (to_be_bytes w16 (length value)) value rest)
    ∙ rw (
      number_again w16 (2 ^ 16) wide16 (is_within 0 most_value_bytes) whole (length value) (value ++ rest) (omega (arith, h)) (within_true 0 most_value_bytes (length value) (omega arith) h),
      text_again (λ v. true) whole value rest refl,
    ) refl

-- ---- lists with distinct keys

differ_fresh : {X : Type 0} (key : X → List ℕ) (before : List X) (x : X) (xs : List X) → all_differ key (before ++ x ∷ xs) ≡ true → is_given key before (key x) ≡ false
differ_fresh key [] x xs d = refl
differ_fresh key (y ∷ ys) x xs d =
    let p = and_true (not (list_any (λ other. same_text (key other) (key y)) (ys ++ x ∷ xs))) (all_differ key (ys ++ x ∷ xs)) d in
    let none = sym (list_any-append (λ other. same_text (key other) (key y)) ys (x ∷ xs)) ∙ not_true _ p.0 in
    let q = or_false (list_any (λ other. same_text (key other) (key y)) ys) (same_text (key x) (key y) || list_any (λ other. same_text (key other) (key y)) xs) none in
    let here = (or_false (same_text (key x) (key y)) (list_any (λ other. same_text (key other) (key y)) xs) q.1).0 in
    rw (here, differ_fresh key ys x xs p.1) refl

-- an item that fits and whose key was not given before is read again
abbrev pub ReadsAgain : {X : Type 0} → (X → List ℕ) → (X → List ℕ) → (X → Type 0) → (List X → List ℕ → Result (X × List ℕ) DecodeFault) → Type 0
ReadsAgain {X} key spelled Fits item = (before : List X) (x : X) (rest : List ℕ) → Fits x → is_given key before (key x) ≡ false → item before (spelled x ++ rest) ≡ Ok (x, rest)

each_again : {X : Type 0} (key : X → List ℕ) (spelled : X → List ℕ) (Fits : X → Type 0) (item : List X → List ℕ → Result (X × List ℕ) DecodeFault) → ReadsAgain key spelled Fits item → (xs before : List X) (rest : List ℕ) → All Fits xs → all_differ key (before ++ xs) ≡ true
    → each_after item (length xs) before (flat_map spelled xs ++ rest) ≡ Ok (before ++ xs, rest)
unfolding each_after
each_again {X} key spelled Fits item again [] before rest fits d = ap (λ (p : List X). Ok (p, rest)) (sym (append-nil before))
each_again {X} key spelled Fits item again (x ∷ xs) before rest fits d =
    let regrouped : flat_map spelled (x ∷ xs) ++ rest ≡ spelled x ++ (flat_map spelled xs ++ rest) = ap (λ (t : List ℕ). t ++ rest) (flat_map-cons spelled x xs) ∙ append_assoc (spelled x) (flat_map spelled xs) rest in
    let moved : (before ++ x ∷ []) ++ xs ≡ before ++ x ∷ xs = append_assoc before (x ∷ []) xs in
    let first = again before x (flat_map spelled xs ++ rest) (All-head Fits x xs fits) (differ_fresh key before x xs d) in
    let others = each_again key spelled Fits item again xs (before ++ x ∷ []) rest (All-tail Fits x xs fits) (ap (all_differ key) moved ∙ d) in
    ap (each_after item (suc (length xs)) before) regrouped ∙ rw (first, others) (ap (λ (p : List X). Ok (p, rest)) moved)

pub list_again : {X : Type 0} (key : X → List ℕ) (spelled : X → List ℕ) (Fits : X → Type 0) (item : List X → List ℕ → Result (X × List ℕ) DecodeFault) → ReadsAgain key spelled Fits item → (whole : ℕ) (xs : List X) (rest : List ℕ) → length xs ≤ most_items → all_differ key xs ≡ true → All Fits xs
    → list_at item whole (list_bytes spelled xs ++ rest) ≡ Ok (xs, rest)
list_again key spelled Fits item again whole xs rest few d fits =
    rw (
      byte_again (is_within 0 most_items) whole (length xs) (flat_map spelled xs ++ rest) (within_true 0 most_items (length xs) (omega arith) few),
      each_again key spelled Fits item again xs [] rest fits d,
    ) refl

-- ---- reads and writes

abbrev pub ReadFits : ReadItem → Type 0
ReadFits r = IsKey r.key × IsSpellableVersion r.version

read_again : (whole : ℕ) → ReadsAgain (λ r. r.key) read_bytes ReadFits (read_at whole)
unfolding read_at
read_again whole before r rest fits fresh =
    ap (read_at whole before) (append_assoc (key_bytes r.key) (version_bytes r.version) rest)
    ∙ rw (key_again (is_given (λ (x : ReadItem). x.key) before) whole r.key (version_bytes r.version ++ rest) fits.0 fresh, version_again whole r.version rest fits.1) refl

pub reads_again : (whole : ℕ) (reads : List ReadItem) (rest : List ℕ) → AreSpellableReads reads → reads_at whole (reads_bytes reads ++ rest) ≡ Ok (reads, rest)
unfolding reads_at
reads_again whole reads rest h = list_again (λ r. r.key) read_bytes ReadFits (read_at whole) (read_again whole) whole reads rest h.few h.differ (λ k d lt. (h.keys k d lt, h.versions k d lt))

abbrev pub WriteFits : WriteItem → Type 0
WriteFits w = IsKey w.key × IsValue w.value × IsSpellableVersion w.over

write_again : (whole : ℕ) → ReadsAgain (λ w. w.key) write_bytes WriteFits (write_at whole)
unfolding write_at
write_again whole before w rest fits fresh =
    let regrouped : write_bytes w ++ rest ≡ key_bytes w.key ++ (value_bytes w.value ++ (version_bytes w.over ++ rest)) =
    append_assoc (key_bytes w.key ++ value_bytes w.value) (version_bytes w.over) rest ∙ append_assoc (key_bytes w.key) (value_bytes w.value) (version_bytes w.over ++ rest) in
    ap (write_at whole before) regrouped
    ∙ rw (
      key_again (is_given (λ (x : WriteItem). x.key) before) whole w.key (value_bytes w.value ++ (version_bytes w.over ++ rest)) fits.0 fresh,
      value_again whole w.value (version_bytes w.over ++ rest) fits.1,
      version_again whole w.over rest fits.2,
    ) refl

pub writes_again : (whole : ℕ) (writes : List WriteItem) (rest : List ℕ) → AreSpellableWrites writes → writes_at whole (writes_bytes writes ++ rest) ≡ Ok (writes, rest)
unfolding writes_at
writes_again whole writes rest h = list_again (λ w. w.key) write_bytes WriteFits (write_at whole) (write_again whole) whole writes rest h.few h.differ (λ k d lt. (h.keys k d lt, h.values k d lt, h.versions k d lt))

-- ---- records

prepare_again : (count whole : ℕ) (p : Transaction) (rest : List ℕ) → IsSpellablePrepare count p → prepare_at count whole (prepare_bytes p ++ rest) ≡ Ok (Prepare p, rest)
unfolding prepare_at prepare_behind
prepare_again count whole p rest h =
    let regrouped : prepare_bytes p ++ rest ≡ id_bytes p.id ++ (reads_bytes p.reads ++ (writes_bytes p.writes ++ rest)) =
    append_assoc (id_bytes p.id ++ reads_bytes p.reads) (writes_bytes p.writes) rest ∙ append_assoc (id_bytes p.id) (reads_bytes p.reads) (writes_bytes p.writes ++ rest) in
    ap (prepare_at count whole) regrouped
    ∙ rw (
      id_again count whole p.id (reads_bytes p.reads ++ (writes_bytes p.writes ++ rest)) h.named,
      reads_again whole p.reads (writes_bytes p.writes ++ rest) h.reads,
      writes_again whole p.writes rest h.writes,
    ) refl

end_again : (whole : ℕ) (id : TxnId) (time : ℕ) (rest : List ℕ) → id.time < time → time ≤ last_time → end_at id whole (to_be_bytes w64 time ++ rest) ≡ Ok (time, rest)
unfolding end_at
end_again whole id time rest later last = number_again w64 (2 ^ 64) wide64 (is_within (id.time + 1) last_time) whole time rest (omega (arith, last)) (within_true (id.time + 1) last_time time (omega (arith, later)) last)

pub record_again : (count whole : ℕ) (r : Record) (rest : List ℕ) → IsSpellableRecord count r → record_at count whole (record_bytes r ++ rest) ≡ Ok (r, rest)
unfolding record_at commit_at abort_at
record_again count whole (Prepare p) rest h = rw (byte_again (is_within 1 3) whole 1 (prepare_bytes p ++ rest) refl) (prepare_again count whole p rest h)
record_again count whole (Commit id time) rest h =
    ap (record_at count whole) (ap (λ (t : List ℕ). 2 ∷ t) (append_assoc (id_bytes id) (to_be_bytes w64 time) rest))
    ∙ rw (byte_again (is_within 1 3) whole 2 (id_bytes id ++ (to_be_bytes w64 time ++ rest)) refl, id_again count whole id (to_be_bytes w64 time ++ rest) h.named, end_again whole id time rest h.later h.last) refl
record_again count whole (Abort id time cause) rest h =
    let regrouped : (id_bytes id ++ to_be_bytes w64 time ++ id_bytes cause) ++ rest ≡ id_bytes id ++ (to_be_bytes w64 time ++ (id_bytes cause ++ rest)) =
    append_assoc (id_bytes id ++ to_be_bytes w64 time) (id_bytes cause) rest ∙ append_assoc (id_bytes id) (to_be_bytes w64 time) (id_bytes cause ++ rest) in
    ap (record_at count whole) (ap (λ (t : List ℕ). 3 ∷ t) regrouped)
    ∙ rw (
      byte_again (is_within 1 3) whole 3 (id_bytes id ++ (to_be_bytes w64 time ++ (id_bytes cause ++ rest))) refl,
      id_again count whole id (to_be_bytes w64 time ++ (id_bytes cause ++ rest)) h.0.named,
      end_again whole id time (id_bytes cause ++ rest) h.0.later h.0.last,
      id_again count whole cause rest h.1,
    ) refl
