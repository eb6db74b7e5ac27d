-- What std says of digits, signs, keys and names, in the words of `Spellings`.
use Rattle.std.proofs.Common.{◌≡◌, ◌≤◌, ℕ, zero, suc, ◌+◌, ◌^◌, ◌<◌, ◌==◌, ◌&&◌, Bool, true, false, List, [], length, inl, inr, nat_lt, Option, Some, None, option_and_then, Result, Ok, Err, All, if◌then◌else◌, refl, ap, ◌∙◌, arith, rules}
use Rattle.std.specs.Bool.{Decides}
use Rattle.std.specs.Prelude.{not}
use Rattle.std.specs.Char.{is_ascii_digit}
use Rattle.std.specs.List.{list_all, before_first, after_first, position_or_len}
use Rattle.std.specs.Result.{result_ok, OkIff}
use Rattle.std.specs.Str.Parse.{ParsesUnsigned}
use Rattle.std.proofs.lemmas.Bool.{and_from, and_parts, eq-eqb, eqb-true, false_from_ne_true, leb-true, le-leb, lt-ltb, ltb-true, not-true, ne_eqb, not_from_false, or_cases}
use Rattle.std.proofs.lemmas.Bool.Decides.{Decides-by_and}
use Rattle.std.proofs.lemmas.List.{drop_all}
use Rattle.std.proofs.lemmas.Str.Parse.{IsNumeralModel, numerals_by_fold, parse_digits}
use Rattle.helios_model.specs.Texts.{IsKey, IsKeyByte, IsName, IsNameByte}
use Rattle.helios_model.specs.Limits.{most_name_bytes}
use Rattle.helios_model.specs.Spellings.{has_plain_front, is_plain, number_after, number_of, id_from, id_of, is_at, is_key, is_key_byte, is_name, is_name_byte, key_of}

own : IsNumeralModel (λ ds. list_all is_ascii_digit ds ≡ true) (number_after 0)
own = numerals_by_fold _ (search rules) number_after (search rules)

-- a result that comes exactly where P holds, which the test decides
chosen : {E : Type 0} (r : Result ℕ E) (plain small : Bool) (v : ℕ) (P : Type 0) → plain ≡ true → (P → small ≡ true) → (small ≡ true → P) → OkIff r P v
    → result_ok r ≡ (if plain && small then Some v else None)
chosen (Ok x) true true v P p to from h = ap Some h.1
chosen (Ok x) true false v P p to from h = let e : false ≡ true = to h.0 in cc
chosen (Err e) true true v P p to from h = absurd (h (from refl))
chosen (Err e) true false v P p to from h = refl
chosen r false small v P p to from h = cc

front_some : (digits : List ℕ) → has_plain_front digits ≡ true → 0 < length digits
front_some digits h = elim (or_cases (length digits == 1) _ h) [
  | inl one ↦ let e : length digits ≡ 1 = eqb-true (length digits) 1 one in omega arith
  | inr more ↦ let e : 1 < length digits = ltb-true 1 (length digits) (and_parts _ _ more).0 in omega arith
]

pub number_read : {E : Type 0} (text : List ℕ) (r : Result ℕ E) → is_plain text ≡ true → ParsesUnsigned 64 10 text r → result_ok r ≡ number_of text
unfolding number_of
number_read text r plain parses =
    let parts = and_parts (has_plain_front text) (list_all is_ascii_digit text) plain in
    chosen r (is_plain text) (nat_lt (number_after 0 text) (2 ^ 64)) (number_after 0 text) ((0 < length text) × (number_after 0 text < 2 ^ 64)) plain
    (λ h. lt-ltb (number_after 0 text) (2 ^ 64) h.1) (λ small. (front_some text parts.0, ltb-true (number_after 0 text) (2 ^ 64) small)) (parse_digits own 64 text r parses parts.1)

pub number_refused : (text : List ℕ) → is_plain text ≡ false → number_of text ≡ None
unfolding number_of
number_refused text plain = rw plain refl

no_digits : number_of [] ≡ None
unfolding number_of
no_digits = refl

second_missing : {A B C : Type 0} (first : Option A) (second : Option B) (join : A → B → Option C) → second ≡ None
    → option_and_then (λ a. option_and_then (λ b. join a b) second) first ≡ None
second_missing None second join e = refl
second_missing (Some a) second join e = rw e refl

pub no_sign : (text : List ℕ) → position_or_len is_at text ≡ length text → id_of text ≡ None
unfolding id_of
no_sign text none =
    let past : after_first is_at text ≡ [] = drop_all (position_or_len is_at text + 1) text (omega arith) in
    second_missing (number_of (before_first is_at text)) (number_of (after_first is_at text)) id_from (ap number_of past ∙ no_digits)

key_byte : (byte : ℕ) → Decides (is_key_byte byte) (IsKeyByte byte)
key_byte byte = (
  λ e. let outer = and_parts _ _ e in let inner = and_parts _ _ outer.0 in (leb-true 33 byte inner.0, leb-true byte 126 inner.1, λ is. let bad : (byte == 61) ≡ true = eq-eqb byte 61 is in let good = not-true _ outer.1 in cc),
  λ h. and_from _ _ (and_from _ _ (le-leb 33 byte h.0) (le-leb byte 126 h.1)) (not_from_false _ (ne_eqb byte 61 h.2)),
)

key_bytes : (bytes : List ℕ) → Decides (list_all is_key_byte bytes) (All IsKeyByte bytes)
key_bytes bytes = Decides-by_and is_key_byte IsKeyByte (list_all is_key_byte) key_byte refl (λ x xs. refl) bytes

is_key_true : (bytes : List ℕ) → IsKey bytes → is_key bytes ≡ true
is_key_true bytes h = and_from _ _ (and_from _ _ (le-leb 1 (length bytes) h.some) (le-leb (length bytes) 64 h.most)) ((key_bytes bytes).1 h.printable)

is_key_false : (bytes : List ℕ) → (IsKey bytes → ⊥) → is_key bytes ≡ false
is_key_false bytes h = false_from_ne_true (is_key bytes) (λ e.
    let outer = and_parts _ _ e in let inner = and_parts _ _ outer.0 in
    h (record { some = leb-true 1 (length bytes) inner.0; most = leb-true (length bytes) 64 inner.1; printable = (key_bytes bytes).0 outer.1 }))

pub is_key_of : (bytes : List ℕ) → IsKey bytes → key_of bytes ≡ Some bytes
unfolding key_of
is_key_of bytes h = rw (is_key_true bytes h) refl

pub no_key_of : (bytes : List ℕ) → (IsKey bytes → ⊥) → key_of bytes ≡ None
unfolding key_of
no_key_of bytes h = rw (is_key_false bytes h) refl

-- ---- names

name_byte : (byte : ℕ) → Decides (is_name_byte byte) (IsNameByte byte)
name_byte byte = (
  λ e. let parts = and_parts _ _ e in (leb-true 33 byte parts.0, leb-true byte 126 parts.1),
  λ h. and_from _ _ (le-leb 33 byte h.0) (le-leb byte 126 h.1),
)

name_bytes : (bytes : List ℕ) → Decides (list_all is_name_byte bytes) (All IsNameByte bytes)
name_bytes bytes = Decides-by_and is_name_byte IsNameByte (list_all is_name_byte) name_byte refl (λ x xs. refl) bytes

not_zero : (n : ℕ) → not (n == 0) ≡ true → 1 ≤ n
not_zero zero h = cc
not_zero (suc n) h = omega arith

pub name_says : (bytes : List ℕ) → is_name bytes ≡ true → IsName bytes
unfolding is_name
name_says bytes h =
    let outer = and_parts _ _ h in let inner = and_parts _ _ outer.0 in
    record { some = not_zero (length bytes) inner.0; most = leb-true (length bytes) most_name_bytes inner.1; printable = (name_bytes bytes).0 outer.1 }

pub says_name : (bytes : List ℕ) → IsName bytes → is_name bytes ≡ true
unfolding is_name
says_name bytes h =
    and_from _ _ (and_from _ _ (not_from_false _ (ne_eqb (length bytes) 0 (λ none. let some = h.some in omega arith))) (le-leb (length bytes) most_name_bytes h.most)) ((name_bytes bytes).1 h.printable)
