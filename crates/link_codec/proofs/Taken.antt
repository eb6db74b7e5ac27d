-- A field that was read has a spelling, and that spelling begins the input.
use Rattle.std.proofs.Common.{◌≡◌, ℕ, zero, suc, ◌+◌, ◌-◌, ◌<◌, ◌≤◌, ◌==◌, ◌&&◌, Bool, true, false, cond, not, ltb, List, [], ◌∷◌, ◌++◌, length, get_or, take, drop, All, Ok, refl, sym, ap, subst, ◌∙◌, append_assoc, arith, inl, inr, nat_lt}
use Rattle.std.specs.Int.{Width, w16, w64, byte_len, from_be_bytes, to_be_bytes}
use Rattle.std.proofs.lemmas.Bool.{cases_lt, ltb-false, ltb-true}
use Rattle.std.proofs.lemmas.List.{get_or_default, get_or-drop, get_or-take, get_or_past, length-take, take-append-drop}
use Rattle.std.proofs.lemmas.Nat.{be_bytes_2, be_bytes_8}
use Rattle.helios_model.specs.declared.ids.TxnId.{TxnId}
use Rattle.helios_model.specs.declared.ids.Version.{Version}
use Rattle.helios_model.specs.declared.ids.Version.TheVariants.{Initial, Of}
use Rattle.helios_model.specs.Limits.{last_time, most_key_bytes, most_sites, most_value_bytes}
use Rattle.helios_model.specs.Spellable.{IsSpellableId, IsSpellableVersion}
use Rattle.helios_model.specs.Spellings.{is_key}
use Rattle.helios_model.specs.Texts.{IsKey, IsValue}
use Rattle.log_records.specs.declared.faults.DecodeFault.TheVariants.{Cut, Bad}
use Rattle.log_records.specs.Fields.{◌>>=◌, is_within, byte_at, number_at, text_at}
use Rattle.log_records.specs.Ids.{id_bytes, id_at, version_bytes, version_at, version_of_id}
use Rattle.log_records.specs.Keys.{key_bytes, key_at, value_bytes, value_at}
use Rattle.link_codec.proofs.Again.{key_from_test}
use Rattle.link_codec.proofs.Steps.{and_true, bind_ok, ok_is, ruled_ok, within}

abbrev pub AreBytes : List ℕ → Type 0
AreBytes bytes = (i : ℕ) → get_or bytes i 0 < 256

pub AreBytes-drop : (n : ℕ) (bytes : List ℕ) → AreBytes bytes → AreBytes (drop n bytes)
AreBytes-drop n bytes h i = rw get_or-drop (h (n + i))

pub AreBytes-take : (n : ℕ) (bytes : List ℕ) → AreBytes bytes → AreBytes (take n bytes)
AreBytes-take n bytes h i =
    elim (cases_lt i n) [
      | inl lt ↦ rw (get_or-take n bytes i 0 lt) (h i)
      | inr le ↦ rw (get_or_past (take n bytes) i 0 (omega (arith, length-take n bytes))) (omega arith)
    ]

-- as the laws of records say it
pub all_small : (bytes : List ℕ) → AreBytes bytes → All (λ b. b < 256) bytes
all_small bytes h i d lt = rw (get_or_default bytes i d 0 lt) (h i)

pub are_small : (bytes : List ℕ) → All (λ b. b < 256) bytes → AreBytes bytes
are_small bytes h i = elim (cases_lt i (length bytes)) [ inl lt ↦ h i 0 lt | inr le ↦ rw (get_or_past bytes i 0 le) (omega arith) ]

-- a text that stands at the front, and what is left
pub record Begins (bytes text rest : List ℕ) : Type 0 where
  pub parts : bytes ≡ text ++ rest
  pub left : AreBytes rest

pub Begins-then : (a x b y c : List ℕ) → Begins a x b → Begins b y c → Begins a (x ++ y) c
Begins-then a x b y c p q = record { parts = p.parts ∙ ap (λ (t : List ℕ). x ++ t) q.parts ∙ sym (append_assoc x y c); left = q.left }

pub tagged : (tag : ℕ) (bytes text rest : List ℕ) → Begins bytes text rest → Begins (tag ∷ bytes) (tag ∷ text) rest
tagged tag bytes text rest p = record { parts = ap (λ (t : List ℕ). tag ∷ t) p.parts; left = p.left }

pub byte_taken : (rule : ℕ → Bool) (bytes : List ℕ) (y : ℕ × List ℕ) → AreBytes bytes → byte_at rule 0 bytes ≡ Ok y → Begins bytes (y.0 ∷ []) y.1 × (rule y.0 ≡ true)
unfolding byte_at
byte_taken rule [] y h e = absurd cc
byte_taken rule (b ∷ rest) y h e =
    let made : ℕ × List ℕ = (b, rest) in
    let t = ruled_ok false (rule b) made y (Bad (0 - length (b ∷ rest))) Cut e in
    subst (λ (p : ℕ × List ℕ). Begins (b ∷ rest) (p.0 ∷ []) p.1 × (rule p.0 ≡ true)) t.2 (record { parts = refl; left = λ i. h (suc i) }, t.1)

-- bytes spell the number that they are read as
record IsWide (w : Width) : Type 0 where
  back : (bytes : List ℕ) → length bytes ≡ byte_len w → AreBytes bytes → to_be_bytes w (from_be_bytes w bytes) ≡ bytes

wide16 : IsWide w16
wide16 = record { back = λ bytes len h. be_bytes_2 bytes _ len h refl }

wide64 : IsWide w64
wide64 = record { back = λ bytes len h. be_bytes_8 bytes _ len h refl }

number_taken : (w : Width) (wide : IsWide w) (rule : ℕ → Bool) (bytes : List ℕ) (y : ℕ × List ℕ) → AreBytes bytes → number_at w rule 0 bytes ≡ Ok y → Begins bytes (to_be_bytes w y.0) y.1 × (rule y.0 ≡ true)
unfolding number_at
number_taken w wide rule bytes y h e =
    let front = take (byte_len w) bytes in
    let made : ℕ × List ℕ = (from_be_bytes w front, drop (byte_len w) bytes) in
    let t = ruled_ok (ltb (length bytes) (byte_len w)) (rule (from_be_bytes w front)) made y (Bad (0 - length bytes)) Cut e in
    let long : byte_len w ≤ length bytes = ltb-false _ _ t.0 in
    let same : to_be_bytes w (from_be_bytes w front) ≡ front = wide.back front (omega (arith, length-take (byte_len w) bytes)) (AreBytes-take (byte_len w) bytes h) in
    let parts : bytes ≡ to_be_bytes w (from_be_bytes w front) ++ drop (byte_len w) bytes = sym (take-append-drop (byte_len w) bytes) ∙ ap (λ (t : List ℕ). t ++ drop (byte_len w) bytes) (sym same) in
    subst (λ (p : ℕ × List ℕ). Begins bytes (to_be_bytes w p.0) p.1 × (rule p.0 ≡ true)) t.2 (record { parts = parts; left = AreBytes-drop (byte_len w) bytes h }, t.1)

-- so many bytes were taken, which their rule accepts
pub record IsText (rule : List ℕ → Bool) (n : ℕ) (bytes : List ℕ) (y : List ℕ × List ℕ) : Type 0 where
  pub begins : Begins bytes y.0 y.1
  pub ruled : rule y.0 ≡ true
  pub long : length y.0 ≡ n

pub text_taken : (rule : List ℕ → Bool) (n : ℕ) (bytes : List ℕ) (y : List ℕ × List ℕ) → AreBytes bytes → text_at rule n 0 bytes ≡ Ok y → IsText rule n bytes y
unfolding text_at
text_taken rule n bytes y h e =
    let made : List ℕ × List ℕ = (take n bytes, drop n bytes) in
    let t = ruled_ok (ltb (length bytes) n) (rule (take n bytes)) made y (Bad (0 - length bytes)) Cut e in
    let long : n ≤ length bytes = ltb-false _ _ t.0 in
    subst (λ (p : List ℕ × List ℕ). IsText rule n bytes p) t.2 (record { begins = record { parts = sym (take-append-drop n bytes); left = AreBytes-drop n bytes h }; ruled = t.1; long = omega (arith, length-take n bytes) })

pub id_taken : (bytes : List ℕ) (y : TxnId × List ℕ) → AreBytes bytes → id_at most_sites 0 bytes ≡ Ok y → Begins bytes (id_bytes y.0) y.1 × IsSpellableId most_sites y.0
unfolding id_at
id_taken bytes y h e =
    let a = bind_ok (byte_at (λ b. nat_lt b most_sites) 0 bytes) (λ site. number_at w64 (is_within 1 last_time) 0 site.1 >>= λ time. Ok (record { site = site.0; time = time.0 }, time.1)) y e in
    let b = bind_ok (number_at w64 (is_within 1 last_time) 0 a.0.1) (λ time. Ok (record { site = a.0.0; time = time.0 }, time.1)) y a.2 in
    let s = byte_taken (λ b. nat_lt b most_sites) bytes a.0 h a.1 in
    let t = number_taken w64 wide64 (is_within 1 last_time) a.0.1 b.0 s.0.left b.1 in
    let lim = within 1 last_time b.0.0 t.1 in
    let made : TxnId × List ℕ = (record { site = a.0.0; time = b.0.0 }, b.0.1) in
    subst (λ (p : TxnId × List ℕ). Begins bytes (id_bytes p.0) p.1 × IsSpellableId most_sites p.0) (ok_is made y b.2)
    (Begins-then bytes (a.0.0 ∷ []) a.0.1 (to_be_bytes w64 b.0.0) b.0.1 s.0 t.0, record { here = ltb-true a.0.0 most_sites s.1; some = lim.0; last = lim.1 })

version_by_tag : (bytes : List ℕ) (tag : ℕ) (after : List ℕ) (y : Version × List ℕ) → Begins bytes (tag ∷ []) after → tag ≤ 1 → cond (tag == 0) (Ok (Initial, after)) (id_at most_sites 0 after >>= version_of_id) ≡ Ok y
    → Begins bytes (version_bytes y.0) y.1 × IsSpellableVersion y.0
version_by_tag bytes zero after y s small e =
    let made : Version × List ℕ = (Initial, after) in
    subst (λ (p : Version × List ℕ). Begins bytes (version_bytes p.0) p.1 × IsSpellableVersion p.0) (ok_is made y e) (s, tt)
version_by_tag bytes (suc zero) after y s small e =
    let a = bind_ok (id_at most_sites 0 after) version_of_id y e in
    let i = id_taken after a.0 s.left a.1 in
    let made : Version × List ℕ = (Of a.0.0, a.0.1) in
    subst (λ (p : Version × List ℕ). Begins bytes (version_bytes p.0) p.1 × IsSpellableVersion p.0) (ok_is made y a.2) (Begins-then bytes (1 ∷ []) after (id_bytes a.0.0) a.0.1 s i.0, i.1)
version_by_tag bytes (suc (suc tag)) after y s small e = absurd (omega (arith, small))

pub version_taken : (bytes : List ℕ) (y : Version × List ℕ) → AreBytes bytes → version_at 0 bytes ≡ Ok y → Begins bytes (version_bytes y.0) y.1 × IsSpellableVersion y.0
unfolding version_at
version_taken bytes y h e =
    let a = bind_ok (byte_at (is_within 0 1) 0 bytes) (λ tag. cond (tag.0 == 0) (Ok (Initial, tag.1)) (id_at most_sites 0 tag.1 >>= version_of_id)) y e in
    let s = byte_taken (is_within 0 1) bytes a.0 h a.1 in
    version_by_tag bytes a.0.0 a.0.1 y s.0 (within 0 1 a.0.0 s.1).1 a.2

pub key_taken : (bytes : List ℕ) (y : List ℕ × List ℕ) → AreBytes bytes → key_at (λ k. false) 0 bytes ≡ Ok y → Begins bytes (key_bytes y.0) y.1 × IsKey y.0
unfolding key_at
key_taken bytes y h e =
    let a = bind_ok (byte_at (is_within 1 most_key_bytes) 0 bytes) (λ n. text_at (λ k. is_key k && not false) n.0 0 n.1) y e in
    let s = byte_taken (is_within 1 most_key_bytes) bytes a.0 h a.1 in
    let t = text_taken (λ k. is_key k && not false) a.0.0 a.0.1 y s.0.left a.2 in
    let both = Begins-then bytes (a.0.0 ∷ []) a.0.1 y.0 y.1 s.0 t.begins in
    (subst (λ (n : ℕ). Begins bytes (n ∷ y.0) y.1) (sym t.long) both, key_from_test y.0 (and_true (is_key y.0) (not false) t.ruled).0)

pub value_taken : (bytes : List ℕ) (y : List ℕ × List ℕ) → AreBytes bytes → value_at 0 bytes ≡ Ok y → Begins bytes (value_bytes y.0) y.1 × IsValue y.0
unfolding value_at
value_taken bytes y h e =
    let a = bind_ok (number_at w16 (is_within 0 most_value_bytes) 0 bytes) (λ n. text_at (λ value. true) n.0 0 n.1) y e in
    let s = number_taken w16 wide16 (is_within 0 most_value_bytes) bytes a.0 h a.1 in
    let t = text_taken (λ value. true) a.0.0 a.0.1 y s.0.left a.2 in
    let small = (within 0 most_value_bytes a.0.0 s.1).1 in
    let both = Begins-then bytes (to_be_bytes w16 a.0.0) a.0.1 y.0 y.1 s.0 t.begins in
    (subst (λ (n : ℕ). Begins bytes (to_be_bytes w16 n ++ y.0) y.1) (sym t.long) both, omega (arith, t.long, small))
