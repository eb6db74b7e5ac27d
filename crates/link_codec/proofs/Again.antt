-- Fields that were written are read again, whatever follows them.
use Rattle.std.proofs.Common.{◌≡◌, ℕ, ◌^◌, ◌<◌, ◌≤◌, ◌==◌, ◌&&◌, Bool, true, false, not, nat_lt, ltb, List, ◌∷◌, ◌++◌, length, All, Ok, refl, sym, ap, ◌∙◌, append_assoc, arith, length-append}
use Rattle.std.specs.Bool.{Decides}
use Rattle.std.specs.List.{list_all}
use Rattle.std.specs.Int.{Width, w16, w64, byte_len, from_be_bytes, to_be_bytes}
use Rattle.std.proofs.lemmas.Bool.{and_from, and_parts, eq-eqb, le-leb, le-ltb, leb-true, lt-ltb, ne_eqb, not-true, not_from_false}
use Rattle.std.proofs.lemmas.Bool.Decides.{Decides-by_and}
use Rattle.std.proofs.lemmas.List.{drop_at, take_at}
use Rattle.std.proofs.lemmas.Nat.{from_be_bytes-to_be_bytes_2, from_be_bytes-to_be_bytes_8}
use Rattle.helios_model.specs.declared.ids.TxnId.{TxnId}
use Rattle.helios_model.specs.declared.ids.Version.{Version}
use Rattle.helios_model.specs.declared.ids.Version.TheVariants.{Initial, Of}
use Rattle.helios_model.specs.Limits.{last_time, most_key_bytes, most_sites, most_value_bytes}
use Rattle.helios_model.specs.Spellable.{IsSpellableId, IsSpellableVersion}
use Rattle.helios_model.specs.Spellings.{is_key, is_key_byte}
use Rattle.helios_model.specs.Texts.{IsKey, IsKeyByte, IsValue}
use Rattle.log_records.specs.Fields.{is_within, byte_at, number_at, text_at}
use Rattle.log_records.specs.Ids.{id_bytes, id_at, version_bytes, version_at}
use Rattle.log_records.specs.Keys.{key_bytes, key_at, value_bytes, value_at}

pub within_true : (least most n : ℕ) → least ≤ n → n ≤ most → is_within least most n ≡ true
within_true least most n l m = and_from _ _ (le-leb least n l) (le-leb n most m)

pub byte_again : (rule : ℕ → Bool) (b : ℕ) (rest : List ℕ) (whole : ℕ) → rule b ≡ true → byte_at rule whole (b ∷ rest) ≡ Ok (b, rest)
unfolding byte_at
byte_again rule b rest whole e = rw e refl

-- a number of so many bytes is read as it was written
pub record IsWide (w : Width) (limit : ℕ) : Type 0 where
  pub len : (n : ℕ) → length (to_be_bytes w n) ≡ byte_len w
  pub again : (n : ℕ) → n < limit → from_be_bytes w (to_be_bytes w n) ≡ n

pub wide16 : IsWide w16 (2 ^ 16)
wide16 = record { len = λ n. refl; again = λ n lt. from_be_bytes-to_be_bytes_2 n lt }

pub wide64 : IsWide w64 (2 ^ 64)
wide64 = record { len = λ n. refl; again = λ n lt. from_be_bytes-to_be_bytes_8 n lt }

pub number_again : (w : Width) (limit : ℕ) (wide : IsWide w limit) (rule : ℕ → Bool) (n : ℕ) (rest : List ℕ) (whole : ℕ) → n < limit → rule n ≡ true → number_at w rule whole (to_be_bytes w n ++ rest) ≡ Ok (n, rest)
unfolding number_at
number_again w limit wide rule n rest whole lt e =
    let len = wide.len n in
    let long : ltb (length (to_be_bytes w n ++ rest)) (byte_len w) ≡ false = le-ltb _ _ (omega (arith, length-append (to_be_bytes w n) rest)) in
    rw (long, take_at (to_be_bytes w n) rest (byte_len w) len, drop_at (to_be_bytes w n) rest (byte_len w) len, wide.again n lt, e) refl

pub text_again : (rule : List ℕ → Bool) (text rest : List ℕ) → rule text ≡ true → text_at rule (length text) 0 (text ++ rest) ≡ Ok (text, rest)
unfolding text_at
text_again rule text rest e =
    let long : ltb (length (text ++ rest)) (length text) ≡ false = le-ltb _ _ (omega (arith, length-append text rest)) in
    rw (long, take_at text rest (length text) refl, drop_at text rest (length text) refl, e) refl

-- the same of bytes whose number is known
pub text_of : (n : ℕ) (text rest : List ℕ) → length text ≡ n → text_at (λ t. true) n 0 (text ++ rest) ≡ Ok (text, rest)
text_of n text rest e = ap (λ (k : ℕ). text_at (λ t. true) k 0 (text ++ rest)) (sym e) ∙ text_again (λ t. true) text rest refl

pub id_again : (id : TxnId) (rest : List ℕ) → IsSpellableId most_sites id → id_at most_sites 0 (id_bytes id ++ rest) ≡ Ok (id, rest)
unfolding id_at
id_again id rest h =
    let last = h.last in
    rw (
      byte_again (λ b. nat_lt b most_sites) id.site (to_be_bytes w64 id.time ++ rest) 0 (lt-ltb id.site most_sites h.here),
      number_again w64 (2 ^ 64) wide64 (is_within 1 last_time) id.time rest 0 (omega (arith, last)) (within_true 1 last_time id.time h.some h.last),
    ) refl

pub version_again : (version : Version) (rest : List ℕ) → IsSpellableVersion version → version_at 0 (version_bytes version ++ rest) ≡ Ok (version, rest)
unfolding version_at
version_again Initial rest h = rw (byte_again (is_within 0 1) 0 rest 0 refl) refl
version_again (Of id) rest h = rw (byte_again (is_within 0 1) 1 (id_bytes id ++ rest) 0 refl, id_again id rest h) refl

key_byte : (byte : ℕ) → Decides (is_key_byte byte) (IsKeyByte byte)
key_byte byte = (
  λ e. let outer = and_parts _ _ e in let inner = and_parts _ _ outer.0 in (leb-true 33 byte inner.0, leb-true byte 126 inner.1, λ is. let bad : (byte == 61) ≡ true = eq-eqb byte 61 is in let good = not-true _ outer.1 in cc),
  λ h. and_from _ _ (and_from _ _ (le-leb 33 byte h.0) (le-leb byte 126 h.1)) (not_from_false _ (ne_eqb byte 61 h.2)),
)

printable : (bytes : List ℕ) → Decides (list_all is_key_byte bytes) (All IsKeyByte bytes)
printable bytes = Decides-by_and is_key_byte IsKeyByte (list_all is_key_byte) key_byte refl (λ x xs. refl) bytes

pub is_key_true : (bytes : List ℕ) → IsKey bytes → is_key bytes ≡ true
is_key_true bytes h = and_from _ _ (and_from _ _ (le-leb 1 (length bytes) h.some) (le-leb (length bytes) 64 h.most)) ((printable bytes).1 h.printable)

pub key_from_test : (bytes : List ℕ) → is_key bytes ≡ true → IsKey bytes
key_from_test bytes e =
    let outer = and_parts _ _ e in let inner = and_parts _ _ outer.0 in
    record { some = leb-true 1 (length bytes) inner.0; most = leb-true (length bytes) 64 inner.1; printable = (printable bytes).0 outer.1 }

pub key_again : (key rest : List ℕ) → IsKey key → key_at (λ k. false) 0 (key_bytes key ++ rest) ≡ Ok (key, rest)
unfolding key_at
key_again key rest h =
    rw (
      byte_again (is_within 1 most_key_bytes) (length key) (key ++ rest) 0 (within_true 1 most_key_bytes (length key) h.some h.most),
      text_again (λ k. is_key k && not false) key rest (and_from _ _ (is_key_true key h) refl),
    ) refl

pub value_again : (value rest : List ℕ) → IsValue value → value_at 0 (value_bytes value ++ rest) ≡ Ok (value, rest)
unfolding value_at
value_again value rest h =
    ap (value_at 0) (append_assoc (to_be_bytes w16 (length value)) value rest)
    ∙ rw (
      number_again w16 (2 ^ 16) wide16 (is_within 0 most_value_bytes) (length value) (value ++ rest) 0 (omega (arith, h)) (within_true 0 most_value_bytes (length value) (omega arith) h),
      text_again (λ v. true) value rest refl,
    ) refl
