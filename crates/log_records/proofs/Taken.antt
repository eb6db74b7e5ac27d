-- What was read has a spelling, and that spelling begins the input.
use Rattle.std.proofs.Common.{◌≡◌, ℕ, zero, suc, ◌+◌, ◌-◌, ◌^◌, ◌<◌, ◌≤◌, ◌==◌, ◌&&◌, Bool, true, cond, not, ltb, List, [], ◌∷◌, ◌++◌, length, get_or, take, drop, All, Result, Ok, refl, sym, ap, subst, ◌∙◌, append_assoc, arith, inl, inr, nat_lt}
use Rattle.std.specs.List.{flat_map}
use Rattle.std.specs.Int.{Width, w16, w64, byte_len, from_be_bytes, to_be_bytes}
use Rattle.std.proofs.lemmas.Bool.{cases_lt, ltb-false, ltb-true}
use Rattle.std.proofs.lemmas.List.{append-nil, get_or-drop, get_or-take, get_or_past, length-take, take-append-drop}
use Rattle.std.proofs.lemmas.List.Concat.{flat_map-cons}
use Rattle.std.proofs.lemmas.List.Elements.{All-cons, All-nil}
use Rattle.std.proofs.lemmas.Nat.{be_bytes_2, be_bytes_8}
use Rattle.helios_model.specs.declared.ids.TxnId.{TxnId}
use Rattle.helios_model.specs.declared.ids.Version.{Version}
use Rattle.helios_model.specs.declared.ids.Version.TheVariants.{Initial, Of}
use Rattle.helios_model.specs.declared.transactions.ReadItem.{ReadItem}
use Rattle.helios_model.specs.declared.transactions.WriteItem.{WriteItem}
use Rattle.helios_model.specs.declared.records.Record.{Record}
use Rattle.helios_model.specs.declared.records.Record.TheVariants.{Prepare, Commit, Abort}
use Rattle.helios_model.specs.Limits.{last_time, most_items, most_key_bytes, most_sites, most_value_bytes}
use Rattle.helios_model.specs.Spellable.{IsSpellableId, IsSpellableVersion, AreSpellableReads, AreSpellableWrites, IsSpellableRecord}
use Rattle.helios_model.specs.Spellings.{is_key}
use Rattle.helios_model.specs.Texts.{IsKey, IsValue}
use Rattle.helios_model.specs.Transactions.{Transaction}
use Rattle.log_records.specs.declared.faults.DecodeFault.{DecodeFault}
use Rattle.log_records.specs.declared.faults.DecodeFault.TheVariants.{Cut, Bad}
use Rattle.log_records.specs.Fields.{◌>>=◌, is_within, byte_at, number_at, text_at, each_after}
use Rattle.log_records.specs.Ids.{id_bytes, id_at, version_bytes, version_at, version_of_id}
use Rattle.log_records.specs.Keys.{key_bytes, key_at, value_bytes, value_at}
use Rattle.log_records.specs.Items.{is_given, list_bytes, list_at, read_bytes, read_at, reads_bytes, reads_at, write_bytes, write_at, writes_bytes, writes_at}
use Rattle.log_records.specs.Records.{prepare_bytes, record_bytes, prepare_behind, end_at, prepare_at, commit_at, abort_at, record_at}
use Rattle.log_records.proofs.Fields.{ruled_ok}
use Rattle.log_records.proofs.Differ.{bind_ok, ok_is, and_true, within, byte_ruled, list_keeps, read_fresh, write_fresh}
use Rattle.log_records.proofs.Again.{key_from_test, ReadFits, WriteFits}

abbrev pub AreBytes : List ℕ → Type 0
AreBytes bytes = (i : ℕ) → get_or bytes i 0 < 256

AreBytes-drop : (n : ℕ) (bytes : List ℕ) → AreBytes bytes → AreBytes (drop n bytes)
AreBytes-drop n bytes h i = rw get_or-drop (h (n + i))

AreBytes-take : (n : ℕ) (bytes : List ℕ) → AreBytes bytes → AreBytes (take n bytes)
AreBytes-take n bytes h i =
    elim (cases_lt i n) [
      | inl lt ↦ rw (get_or-take n bytes i 0 lt) (h i)
      | inr le ↦ rw (get_or_past (take n bytes) i 0 (omega (arith, length-take n bytes))) (omega arith)
    ]

-- a text that stands at the front, and what is left
pub record Begins (bytes text rest : List ℕ) : Type 0 where
  pub parts : bytes ≡ text ++ rest
  pub left : AreBytes rest

pub Begins-then : (a x b y c : List ℕ) → Begins a x b → Begins b y c → Begins a (x ++ y) c
Begins-then a x b y c p q = record { parts = p.parts ∙ ap (λ (t : List ℕ). x ++ t) q.parts ∙ sym (append_assoc x y c); left = q.left }

-- ---- fields

pub byte_taken : (rule : ℕ → Bool) (whole : ℕ) (bytes : List ℕ) (y : ℕ × List ℕ) → AreBytes bytes → byte_at rule whole bytes ≡ Ok y → Begins bytes (y.0 ∷ []) y.1 × (rule y.0 ≡ true)
byte_taken rule whole bytes y h e =
    let r = byte_ruled rule whole bytes y e in
    let front : AreBytes (y.0 ∷ y.1) = subst AreBytes r.1 h in
    (record { parts = r.1; left = λ i. front (suc i) }, r.0)

pub record IsWide (w : Width) (limit : ℕ) : Type 0 where
  pub back : (bytes : List ℕ) → length bytes ≡ byte_len w → AreBytes bytes → to_be_bytes w (from_be_bytes w bytes) ≡ bytes

wide16 : IsWide w16 (2 ^ 16)
wide16 = record { back = λ bytes len h. be_bytes_2 bytes _ len h refl }

pub wide64 : IsWide w64 (2 ^ 64)
wide64 = record { back = λ bytes len h. be_bytes_8 bytes _ len h refl }

pub number_taken : (w : Width) (limit : ℕ) (wide : IsWide w limit) (rule : ℕ → Bool) (whole : ℕ) (bytes : List ℕ) (y : ℕ × List ℕ) → AreBytes bytes → number_at w rule whole bytes ≡ Ok y → Begins bytes (to_be_bytes w y.0) y.1 × (rule y.0 ≡ true)
unfolding number_at
number_taken w limit wide rule whole bytes y h e =
    let front = take (byte_len w) bytes in
    let made : ℕ × List ℕ = (from_be_bytes w front, drop (byte_len w) bytes) in
    let t = ruled_ok (ltb (length bytes) (byte_len w)) (rule (from_be_bytes w front)) made y (Bad (whole - length bytes)) Cut e in
    let long : byte_len w ≤ length bytes = ltb-false _ _ t.0 in
    let same : to_be_bytes w (from_be_bytes w front) ≡ front = wide.back front (omega (arith, length-take (byte_len w) bytes)) (AreBytes-take (byte_len w) bytes h) in
    let parts : bytes ≡ to_be_bytes w (from_be_bytes w front) ++ drop (byte_len w) bytes = sym (take-append-drop (byte_len w) bytes) ∙ ap (λ (t : List ℕ). t ++ drop (byte_len w) bytes) (sym same) in
    subst (λ (p : ℕ × List ℕ). Begins bytes (to_be_bytes w p.0) p.1 × (rule p.0 ≡ true)) t.2 (record { parts = parts; left = AreBytes-drop (byte_len w) bytes h }, t.1)

-- so many bytes were taken, which their rule accepts
pub record IsText (rule : List ℕ → Bool) (n : ℕ) (bytes : List ℕ) (y : List ℕ × List ℕ) : Type 0 where
  pub begins : Begins bytes y.0 y.1
  pub ruled : rule y.0 ≡ true
  pub long : length y.0 ≡ n

pub text_taken : (rule : List ℕ → Bool) (n whole : ℕ) (bytes : List ℕ) (y : List ℕ × List ℕ) → AreBytes bytes → text_at rule n whole bytes ≡ Ok y → IsText rule n bytes y
unfolding text_at
text_taken rule n whole bytes y h e =
    let made : List ℕ × List ℕ = (take n bytes, drop n bytes) in
    let t = ruled_ok (ltb (length bytes) n) (rule (take n bytes)) made y (Bad (whole - length bytes)) Cut e in
    let long : n ≤ length bytes = ltb-false _ _ t.0 in
    subst (λ (p : List ℕ × List ℕ). IsText rule n bytes p) t.2 (record { begins = record { parts = sym (take-append-drop n bytes); left = AreBytes-drop n bytes h }; ruled = t.1; long = omega (arith, length-take n bytes) })

-- ---- ids and versions

id_taken : (count whole : ℕ) (bytes : List ℕ) (y : TxnId × List ℕ) → AreBytes bytes → id_at count whole bytes ≡ Ok y → Begins bytes (id_bytes y.0) y.1 × IsSpellableId count y.0
unfolding id_at
id_taken count whole bytes y h e =
    let a = bind_ok (byte_at (λ b. nat_lt b count) whole bytes) (λ site. number_at w64 (is_within 1 last_time) whole site.1 >>= λ time. Ok (record { site = site.0; time = time.0 }, time.1)) y e in
    let b = bind_ok (number_at w64 (is_within 1 last_time) whole a.0.1) (λ time. Ok (record { site = a.0.0; time = time.0 }, time.1)) y a.2 in
    let s = byte_taken (λ b. nat_lt b count) whole bytes a.0 h a.1 in
    let t = number_taken w64 (2 ^ 64) wide64 (is_within 1 last_time) whole a.0.1 b.0 s.0.left b.1 in
    let lim = within 1 last_time b.0.0 t.1 in
    let made : TxnId × List ℕ = (record { site = a.0.0; time = b.0.0 }, b.0.1) in
    subst (λ (p : TxnId × List ℕ). Begins bytes (id_bytes p.0) p.1 × IsSpellableId count p.0) (ok_is made y b.2)
    (Begins-then bytes (a.0.0 ∷ []) a.0.1 (to_be_bytes w64 b.0.0) b.0.1 s.0 t.0, record { here = ltb-true a.0.0 count s.1; some = lim.0; last = lim.1 })

version_by_tag : (whole : ℕ) (bytes : List ℕ) (tag : ℕ) (after : List ℕ) (y : Version × List ℕ) → Begins bytes (tag ∷ []) after → tag ≤ 1 → cond (tag == 0) (Ok (Initial, after)) (id_at most_sites whole after >>= version_of_id) ≡ Ok y
    → Begins bytes (version_bytes y.0) y.1 × IsSpellableVersion y.0
version_by_tag whole bytes zero after y s small e =
    let made : Version × List ℕ = (Initial, after) in
    subst (λ (p : Version × List ℕ). Begins bytes (version_bytes p.0) p.1 × IsSpellableVersion p.0) (ok_is made y e) (s, tt)
version_by_tag whole bytes (suc zero) after y s small e =
    let a = bind_ok (id_at most_sites whole after) version_of_id y e in
    let i = id_taken most_sites whole after a.0 s.left a.1 in
    let made : Version × List ℕ = (Of a.0.0, a.0.1) in
    subst (λ (p : Version × List ℕ). Begins bytes (version_bytes p.0) p.1 × IsSpellableVersion p.0) (ok_is made y a.2) (Begins-then bytes (1 ∷ []) after (id_bytes a.0.0) a.0.1 s i.0, i.1)
version_by_tag whole bytes (suc (suc tag)) after y s small e = absurd (omega (arith, small))

version_taken : (whole : ℕ) (bytes : List ℕ) (y : Version × List ℕ) → AreBytes bytes → version_at whole bytes ≡ Ok y → Begins bytes (version_bytes y.0) y.1 × IsSpellableVersion y.0
unfolding version_at
version_taken whole bytes y h e =
    let a = bind_ok (byte_at (is_within 0 1) whole bytes) (λ tag. cond (tag.0 == 0) (Ok (Initial, tag.1)) (id_at most_sites whole tag.1 >>= version_of_id)) y e in
    let s = byte_taken (is_within 0 1) whole bytes a.0 h a.1 in
    version_by_tag whole bytes a.0.0 a.0.1 y s.0 (within 0 1 a.0.0 s.1).1 a.2

-- ---- keys and values

pub key_taken : (given : List ℕ → Bool) (whole : ℕ) (bytes : List ℕ) (y : List ℕ × List ℕ) → AreBytes bytes → key_at given whole bytes ≡ Ok y → Begins bytes (key_bytes y.0) y.1 × IsKey y.0
unfolding key_at
key_taken given whole bytes y h e =
    let a = bind_ok (byte_at (is_within 1 most_key_bytes) whole bytes) (λ n. text_at (λ k. is_key k && not (given k)) n.0 whole n.1) y e in
    let s = byte_taken (is_within 1 most_key_bytes) whole bytes a.0 h a.1 in
    let t = text_taken (λ k. is_key k && not (given k)) a.0.0 whole a.0.1 y s.0.left a.2 in
    let both = Begins-then bytes (a.0.0 ∷ []) a.0.1 y.0 y.1 s.0 t.begins in
    (subst (λ (n : ℕ). Begins bytes (n ∷ y.0) y.1) (sym t.long) both, key_from_test y.0 (and_true (is_key y.0) (not (given y.0)) t.ruled).0)

pub value_taken : (whole : ℕ) (bytes : List ℕ) (y : List ℕ × List ℕ) → AreBytes bytes → value_at whole bytes ≡ Ok y → Begins bytes (value_bytes y.0) y.1 × IsValue y.0
unfolding value_at
value_taken whole bytes y h e =
    let a = bind_ok (number_at w16 (is_within 0 most_value_bytes) whole bytes) (λ n. text_at (λ value. true) n.0 whole n.1) y e in
    let s = number_taken w16 (2 ^ 16) wide16 (is_within 0 most_value_bytes) whole bytes a.0 h a.1 in
    let t = text_taken (λ value. true) a.0.0 whole a.0.1 y s.0.left a.2 in
    let small = (within 0 most_value_bytes a.0.0 s.1).1 in
    let both = Begins-then bytes (to_be_bytes w16 a.0.0) a.0.1 y.0 y.1 s.0 t.begins in
    (subst (λ (n : ℕ). Begins bytes (to_be_bytes w16 n ++ y.0) y.1) (sym t.long) both, omega (arith, t.long, small))

-- ---- lists

-- so many items that fit stand behind those before
pub record Follow {X : Type 0} (spelled : X → List ℕ) (Fits : X → Type 0) (n : ℕ) (before : List X) (bytes : List ℕ) (y : List X × List ℕ) : Type 0 where
  pub items : List X
  pub are : y.0 ≡ before ++ items
  pub many : length items ≡ n
  pub fit : All Fits items
  pub begins : Begins bytes (flat_map spelled items) y.1

abbrev pub IsTaken : {X : Type 0} → (X → List ℕ) → (X → Type 0) → (List X → List ℕ → Result (X × List ℕ) DecodeFault) → Type 0
IsTaken {X} spelled Fits item = (before : List X) (bytes : List ℕ) (y : X × List ℕ) → AreBytes bytes → item before bytes ≡ Ok y → Begins bytes (spelled y.0) y.1 × Fits y.0

pub each_taken : {X : Type 0} (spelled : X → List ℕ) (Fits : X → Type 0) (item : List X → List ℕ → Result (X × List ℕ) DecodeFault) → IsTaken spelled Fits item → (n : ℕ) (before : List X) (bytes : List ℕ) (y : List X × List ℕ) → AreBytes bytes
    → each_after item n before bytes ≡ Ok y → Follow spelled Fits n before bytes y
unfolding each_after
each_taken {X} spelled Fits item taken zero before bytes y h e =
    let made : List X × List ℕ = (before, bytes) in
    subst (λ (p : List X × List ℕ). Follow spelled Fits 0 before bytes p) (ok_is made y e)
    (record { items = []; are = sym (append-nil before); many = refl; fit = All-nil Fits; begins = record { parts = refl; left = h } })
each_taken {X} spelled Fits item taken (suc n) before bytes y h e =
    let a = bind_ok (item before bytes) (λ x. each_after item n (before ++ x.0 ∷ []) x.1) y e in
    let first = taken before bytes a.0 h a.1 in
    let r = each_taken spelled Fits item taken n (before ++ a.0.0 ∷ []) a.0.1 y first.0.left a.2 in
    let both = Begins-then bytes (spelled a.0.0) a.0.1 (flat_map spelled r.items) y.1 first.0 r.begins in
    record {
      items = a.0.0 ∷ r.items;
      are = r.are ∙ append_assoc before (a.0.0 ∷ []) r.items;
      many = ap suc r.many;
      fit = All-cons Fits a.0.0 r.items first.1 r.fit;
      begins = rw flat_map-cons both;
    }

pub list_taken : {X : Type 0} (spelled : X → List ℕ) (Fits : X → Type 0) (item : List X → List ℕ → Result (X × List ℕ) DecodeFault) → IsTaken spelled Fits item → (whole : ℕ) (bytes : List ℕ) (y : List X × List ℕ) → AreBytes bytes
    → list_at item whole bytes ≡ Ok y → Begins bytes (list_bytes spelled y.0) y.1 × All Fits y.0
list_taken {X} spelled Fits item taken whole bytes y h e =
    let a = bind_ok (byte_at (is_within 0 most_items) whole bytes) (λ n. each_after item n.0 [] n.1) y e in
    let s = byte_taken (is_within 0 most_items) whole bytes a.0 h a.1 in
    let r = each_taken spelled Fits item taken a.0.0 [] a.0.1 y s.0.left a.2 in
    let both = Begins-then bytes (a.0.0 ∷ []) a.0.1 (flat_map spelled r.items) y.1 s.0 r.begins in
    let counted : Begins bytes (list_bytes spelled r.items) y.1 = subst (λ (n : ℕ). Begins bytes (n ∷ flat_map spelled r.items) y.1) (sym r.many) both in
    subst (λ (xs : List X). Begins bytes (list_bytes spelled xs) y.1 × All Fits xs) (sym r.are) (counted, r.fit)

read_taken : (whole : ℕ) → IsTaken read_bytes ReadFits (read_at whole)
unfolding read_at
read_taken whole before bytes y h e =
    let given = is_given (λ (r : ReadItem). r.key) before in
    let a = bind_ok (key_at given whole bytes) (λ key. version_at whole key.1 >>= λ version. Ok (record { key = key.0; version = version.0 }, version.1)) y e in
    let b = bind_ok (version_at whole a.0.1) (λ version. Ok (record { key = a.0.0; version = version.0 }, version.1)) y a.2 in
    let k = key_taken given whole bytes a.0 h a.1 in
    let v = version_taken whole a.0.1 b.0 k.0.left b.1 in
    let made : ReadItem × List ℕ = (record { key = a.0.0; version = b.0.0 }, b.0.1) in
    subst (λ (p : ReadItem × List ℕ). Begins bytes (read_bytes p.0) p.1 × ReadFits p.0) (ok_is made y b.2) (Begins-then bytes (key_bytes a.0.0) a.0.1 (version_bytes b.0.0) b.0.1 k.0 v.0, (k.1, v.1))

pub reads_taken : (whole : ℕ) (bytes : List ℕ) (y : List ReadItem × List ℕ) → AreBytes bytes → reads_at whole bytes ≡ Ok y → Begins bytes (reads_bytes y.0) y.1 × AreSpellableReads y.0
unfolding reads_at
reads_taken whole bytes y h e =
    let t = list_taken read_bytes ReadFits (read_at whole) (read_taken whole) whole bytes y h e in
    let f = list_keeps (λ (r : ReadItem). r.key) (read_at whole) (read_fresh whole) whole bytes y e in
    (t.0, record { few = f.few; differ = f.differ; keys = λ k d lt. (t.1 k d lt).0; versions = λ k d lt. (t.1 k d lt).1 })

write_taken : (whole : ℕ) → IsTaken write_bytes WriteFits (write_at whole)
unfolding write_at
write_taken whole before bytes y h e =
    let given = is_given (λ (w : WriteItem). w.key) before in
    let a = bind_ok (key_at given whole bytes) (λ key. value_at whole key.1 >>= λ value. version_at whole value.1 >>= λ over. Ok (record { key = key.0; value = value.0; over = over.0 }, over.1)) y e in
    let b = bind_ok (value_at whole a.0.1) (λ value. version_at whole value.1 >>= λ over. Ok (record { key = a.0.0; value = value.0; over = over.0 }, over.1)) y a.2 in
    let d = bind_ok (version_at whole b.0.1) (λ over. Ok (record { key = a.0.0; value = b.0.0; over = over.0 }, over.1)) y b.2 in
    let k = key_taken given whole bytes a.0 h a.1 in
    let v = value_taken whole a.0.1 b.0 k.0.left b.1 in
    let o = version_taken whole b.0.1 d.0 v.0.left d.1 in
    let made : WriteItem × List ℕ = (record { key = a.0.0; value = b.0.0; over = d.0.0 }, d.0.1) in
    let front = Begins-then bytes (key_bytes a.0.0) a.0.1 (value_bytes b.0.0) b.0.1 k.0 v.0 in
    subst (λ (p : WriteItem × List ℕ). Begins bytes (write_bytes p.0) p.1 × WriteFits p.0) (ok_is made y d.2)
    (Begins-then bytes (key_bytes a.0.0 ++ value_bytes b.0.0) b.0.1 (version_bytes d.0.0) d.0.1 front o.0, (k.1, v.1, o.1))

writes_taken : (whole : ℕ) (bytes : List ℕ) (y : List WriteItem × List ℕ) → AreBytes bytes → writes_at whole bytes ≡ Ok y → Begins bytes (writes_bytes y.0) y.1 × AreSpellableWrites y.0
unfolding writes_at
writes_taken whole bytes y h e =
    let t = list_taken write_bytes WriteFits (write_at whole) (write_taken whole) whole bytes y h e in
    let f = list_keeps (λ (w : WriteItem). w.key) (write_at whole) (write_fresh whole) whole bytes y e in
    (t.0, record { few = f.few; differ = f.differ; keys = λ k d lt. (t.1 k d lt).0; values = λ k d lt. (t.1 k d lt).1; versions = λ k d lt. (t.1 k d lt).2 })

-- ---- records

end_taken : (id : TxnId) (whole : ℕ) (bytes : List ℕ) (y : ℕ × List ℕ) → AreBytes bytes → end_at id whole bytes ≡ Ok y → Begins bytes (to_be_bytes w64 y.0) y.1 × (id.time < y.0) × (y.0 ≤ last_time)
unfolding end_at
end_taken id whole bytes y h e =
    let t = number_taken w64 (2 ^ 64) wide64 (is_within (id.time + 1) last_time) whole bytes y h e in
    let lim = within (id.time + 1) last_time y.0 t.1 in
    let low = lim.0 in
    (t.0, omega (arith, low), lim.1)

-- the front byte is the tag of what was read behind it
abbrev IsBehind : ℕ → ℕ → List ℕ → Record × List ℕ → Type 0
IsBehind count tag bytes y = Begins (tag ∷ bytes) (record_bytes y.0) y.1 × IsSpellableRecord count y.0

prepare_behind_taken : (id : TxnId) (whole : ℕ) (bytes : List ℕ) (y : Transaction × List ℕ) → AreBytes bytes → prepare_behind id whole bytes ≡ Ok y
    → Begins bytes (reads_bytes y.0.reads ++ writes_bytes y.0.writes) y.1 × (y.0.id ≡ id) × AreSpellableReads y.0.reads × AreSpellableWrites y.0.writes
unfolding prepare_behind
prepare_behind_taken id whole bytes y h e =
    let a = bind_ok (reads_at whole bytes) (λ reads. writes_at whole reads.1 >>= λ writes. Ok (record { id = id; reads = reads.0; writes = writes.0 }, writes.1)) y e in
    let b = bind_ok (writes_at whole a.0.1) (λ writes. Ok (record { id = id; reads = a.0.0; writes = writes.0 }, writes.1)) y a.2 in
    let r = reads_taken whole bytes a.0 h a.1 in
    let w = writes_taken whole a.0.1 b.0 r.0.left b.1 in
    let made : Transaction × List ℕ = (record { id = id; reads = a.0.0; writes = b.0.0 }, b.0.1) in
    subst (λ (p : Transaction × List ℕ). Begins bytes (reads_bytes p.0.reads ++ writes_bytes p.0.writes) p.1 × (p.0.id ≡ id) × AreSpellableReads p.0.reads × AreSpellableWrites p.0.writes) (ok_is made y b.2)
    (Begins-then bytes (reads_bytes a.0.0) a.0.1 (writes_bytes b.0.0) b.0.1 r.0 w.0, refl, r.1, w.1)

pub tagged : (tag : ℕ) (bytes text rest : List ℕ) → Begins bytes text rest → Begins (tag ∷ bytes) (tag ∷ text) rest
tagged tag bytes text rest p = record { parts = ap (λ (t : List ℕ). tag ∷ t) p.parts; left = p.left }

prepare_taken : (count whole : ℕ) (bytes : List ℕ) (y : Record × List ℕ) → AreBytes bytes → prepare_at count whole bytes ≡ Ok y → IsBehind count 1 bytes y
unfolding prepare_at
prepare_taken count whole bytes y h e =
    let a = bind_ok (id_at count whole bytes) (λ id. prepare_behind id.0 whole id.1 >>= λ p. Ok (Prepare p.0, p.1)) y e in
    let b = bind_ok (prepare_behind a.0.0 whole a.0.1) (λ p. Ok (Prepare p.0, p.1)) y a.2 in
    let i = id_taken count whole bytes a.0 h a.1 in
    let p = prepare_behind_taken a.0.0 whole a.0.1 b.0 i.0.left b.1 in
    let both = Begins-then bytes (id_bytes a.0.0) a.0.1 (reads_bytes b.0.0.reads ++ writes_bytes b.0.0.writes) b.0.1 i.0 p.0 in
    let regrouped = subst (λ (t : List ℕ). Begins bytes t b.0.1) (sym (append_assoc (id_bytes a.0.0) (reads_bytes b.0.0.reads) (writes_bytes b.0.0.writes))) both in
    let named : Begins bytes (prepare_bytes b.0.0) b.0.1 = subst (λ (id : TxnId). Begins bytes (id_bytes id ++ reads_bytes b.0.0.reads ++ writes_bytes b.0.0.writes) b.0.1) (sym p.1) regrouped in
    let made : Record × List ℕ = (Prepare b.0.0, b.0.1) in
    subst (λ (r : Record × List ℕ). IsBehind count 1 bytes r) (ok_is made y b.2)
    (tagged 1 bytes (prepare_bytes b.0.0) b.0.1 named, record { named = subst (λ (id : TxnId). IsSpellableId count id) (sym p.1) i.1; reads = p.2; writes = p.3 })

commit_taken : (count whole : ℕ) (bytes : List ℕ) (y : Record × List ℕ) → AreBytes bytes → commit_at count whole bytes ≡ Ok y → IsBehind count 2 bytes y
unfolding commit_at
commit_taken count whole bytes y h e =
    let a = bind_ok (id_at count whole bytes) (λ id. end_at id.0 whole id.1 >>= λ time. Ok (Commit id.0 time.0, time.1)) y e in
    let b = bind_ok (end_at a.0.0 whole a.0.1) (λ time. Ok (Commit a.0.0 time.0, time.1)) y a.2 in
    let i = id_taken count whole bytes a.0 h a.1 in
    let t = end_taken a.0.0 whole a.0.1 b.0 i.0.left b.1 in
    let both = Begins-then bytes (id_bytes a.0.0) a.0.1 (to_be_bytes w64 b.0.0) b.0.1 i.0 t.0 in
    let made : Record × List ℕ = (Commit a.0.0 b.0.0, b.0.1) in
    subst (λ (r : Record × List ℕ). IsBehind count 2 bytes r) (ok_is made y b.2)
    (tagged 2 bytes (id_bytes a.0.0 ++ to_be_bytes w64 b.0.0) b.0.1 both, record { named = i.1; later = t.1; last = t.2 })

abort_taken : (count whole : ℕ) (bytes : List ℕ) (y : Record × List ℕ) → AreBytes bytes → abort_at count whole bytes ≡ Ok y → IsBehind count 3 bytes y
unfolding abort_at
abort_taken count whole bytes y h e =
    let a = bind_ok (id_at count whole bytes) (λ id. end_at id.0 whole id.1 >>= λ time. id_at count whole time.1 >>= λ cause. Ok (Abort id.0 time.0 cause.0, cause.1)) y e in
    let b = bind_ok (end_at a.0.0 whole a.0.1) (λ time. id_at count whole time.1 >>= λ cause. Ok (Abort a.0.0 time.0 cause.0, cause.1)) y a.2 in
    let d = bind_ok (id_at count whole b.0.1) (λ cause. Ok (Abort a.0.0 b.0.0 cause.0, cause.1)) y b.2 in
    let i = id_taken count whole bytes a.0 h a.1 in
    let t = end_taken a.0.0 whole a.0.1 b.0 i.0.left b.1 in
    let c = id_taken count whole b.0.1 d.0 t.0.left d.1 in
    let front = Begins-then bytes (id_bytes a.0.0) a.0.1 (to_be_bytes w64 b.0.0) b.0.1 i.0 t.0 in
    let both = Begins-then bytes (id_bytes a.0.0 ++ to_be_bytes w64 b.0.0) b.0.1 (id_bytes d.0.0) d.0.1 front c.0 in
    let made : Record × List ℕ = (Abort a.0.0 b.0.0 d.0.0, d.0.1) in
    subst (λ (r : Record × List ℕ). IsBehind count 3 bytes r) (ok_is made y d.2)
    (tagged 3 bytes (id_bytes a.0.0 ++ to_be_bytes w64 b.0.0 ++ id_bytes d.0.0) d.0.1 both, (record { named = i.1; later = t.1; last = t.2 }, c.1))

record_by_tag : (count whole : ℕ) (bytes : List ℕ) (tag : ℕ) (after : List ℕ) (y : Record × List ℕ) → Begins bytes (tag ∷ []) after → 1 ≤ tag → tag ≤ 3
    → cond (tag == 1) (prepare_at count whole after) (cond (tag == 2) (commit_at count whole after) (abort_at count whole after)) ≡ Ok y
    → Begins (tag ∷ after) (record_bytes y.0) y.1 × IsSpellableRecord count y.0
record_by_tag count whole bytes zero after y s least most e = absurd (omega (arith, least))
record_by_tag count whole bytes (suc zero) after y s least most e = prepare_taken count whole after y s.left e
record_by_tag count whole bytes (suc (suc zero)) after y s least most e = commit_taken count whole after y s.left e
record_by_tag count whole bytes (suc (suc (suc zero))) after y s least most e = abort_taken count whole after y s.left e
record_by_tag count whole bytes (suc (suc (suc (suc tag)))) after y s least most e = absurd (omega (arith, most))

pub record_begins : (count whole : ℕ) (bytes : List ℕ) (y : Record × List ℕ) → AreBytes bytes → record_at count whole bytes ≡ Ok y → Begins bytes (record_bytes y.0) y.1 × IsSpellableRecord count y.0
unfolding record_at
record_begins count whole bytes y h e =
    let a = bind_ok (byte_at (is_within 1 3) whole bytes) (λ tag. cond (tag.0 == 1) (prepare_at count whole tag.1) (cond (tag.0 == 2) (commit_at count whole tag.1) (abort_at count whole tag.1))) y e in
    let s = byte_taken (is_within 1 3) whole bytes a.0 h a.1 in
    let lim = within 1 3 a.0.0 s.1 in
    let r = record_by_tag count whole bytes a.0.0 a.0.1 y s.0 lim.0 lim.1 a.2 in
    (record { parts = s.0.parts ∙ r.0.parts; left = r.0.left }, r.1)

pub are_bytes : (bytes : List ℕ) → All (λ b. b < 256) bytes → AreBytes bytes
are_bytes bytes h i = elim (cases_lt i (length bytes)) [ inl lt ↦ h i 0 lt | inr le ↦ rw (get_or_past bytes i 0 le) (omega arith) ]

pub record_taken : (count whole : ℕ) (bytes : List ℕ) (r : Record) (rest : List ℕ) → All (λ b. b < 256) bytes → record_at count whole bytes ≡ Ok (r, rest) → IsSpellableRecord count r × (bytes ≡ record_bytes r ++ rest)
record_taken count whole bytes r rest h e =
    let t = record_begins count whole bytes (r, rest) (are_bytes bytes h) e in
    (t.1, t.0.parts)
