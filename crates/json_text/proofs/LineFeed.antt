-- A line feed behind a text changes nothing of what the text says.
use Rattle.std.proofs.Common.{◌≡◌, ℕ, ◌+◌, ◌-◌, ◌*◌, Bool, true, false, cond, ◌&&◌, ◌||◌, nat_eq, List, [], ◌∷◌, ◌++◌, Option, Some, None, length, take, drop, refl, ◌∙◌, ap, ap₂, arith}
use Rattle.std.specs.Prelude.{◌==◌, option_map, option_and_then}
use Rattle.std.specs.Char.{is_ascii_digit, is_digit, digit_value, encode_utf8}
use Rattle.std.specs.Cmp.Lexicographic.{pointwise}
use Rattle.std.specs.List.{prefix_len}
use Rattle.std.specs.Str.{is_utf8, IsUtf8}
use Rattle.std.proofs.lemmas.Bool.{and_right}
use Rattle.std.proofs.lemmas.List.{take-append-le, drop-append-le, length-append}
use Rattle.std.proofs.lemmas.List.Sums.{prefix_len-le-length}
use Rattle.std.proofs.lemmas.Str.{IsUtf8-append, is_utf8-from_IsUtf8}
use Rattle.json.proofs.Printed.Utf8.{IsUtf8-are_ascii}
use Rattle.json.specs.Ascii as ascii
use Rattle.json.specs.Token.{bad, number, boolean, null}
use Rattle.json.specs.Text.{Within, plain, after_backslash, after_u, after_high, content, prepend, code_unit, short_escape, is_high_surrogate, is_low_surrogate, surrogate_pair}
use Rattle.json.specs.Word.{ends_word, after_digits, after_minus, after_sign, after_whole, after_fraction, after_exponent, after_number, number_before, literal, word}
use Rattle.json.specs.Lex.{token, Class, quote, backslash, operator, space, other, class, operator_lexeme, string_token, Mode, between, in_word, in_string, in_escape, lex_byte, lex, fresh, punctuate}
use Rattle.serde_json.specs.Data.{Data}
use Rattle.serde_json.specs.Read.{read}
use Rattle.json_text.specs.Text.{json_of}

-- a text and a line feed
abbrev pub fed : List ℕ → List ℕ
fed t = t ++ 10 ∷ []

-- ---- strings

each_then : {A B : Type 0} (f g : A → Option B) (o : Option A) → ((x : A) → f x ≡ g x) → option_and_then f o ≡ option_and_then g o
each_then f g None same = refl
each_then f g (Some x) same = same x

either_same : {X : Type 0} (b : Bool) (x : X) → cond b x x ≡ x
either_same true x = refl
either_same false x = refl

code_unit-feed : (a b c : ℕ) → code_unit a b c 10 ≡ None
unfolding code_unit
code_unit-feed a b c =
    ap (λ t. cond t (Some (digit_value a * 4096 + digit_value b * 256 + digit_value c * 16 + digit_value 10)) None)
    (and_right (is_digit a 16 && is_digit b 16 && is_digit c 16) (is_digit 10 16) refl)

content-fed : (w : Within) (t : List ℕ) → content w (fed t) ≡ content w t
unfolding content short_escape
content-fed plain [] = refl
content-fed plain (x ∷ xs) =
    ap₂ (λ a b. cond (x == ascii.quote) (Some []) (cond (x == ascii.backslash) a (cond (Rattle.std.specs.Prelude.nat_lt x ascii.space) None (prepend (x ∷ []) b)))) (content-fed after_backslash xs) (content-fed plain xs)
content-fed after_backslash [] = refl
content-fed after_backslash (x ∷ xs) =
    ap₂ (λ a b. cond (x == ascii.lower_u) a (option_and_then (λ c. prepend (c ∷ []) b) (short_escape x))) (content-fed after_u xs) (content-fed plain xs)
content-fed after_u [] = refl
content-fed after_u (a ∷ []) = refl
content-fed after_u (a ∷ b ∷ []) = refl
content-fed after_u (a ∷ b ∷ c ∷ []) =
    ap (option_and_then (λ u. cond (is_high_surrogate u) (content (after_high u) []) (cond (is_low_surrogate u) None (prepend (encode_utf8 u) (content plain []))))) (code_unit-feed a b c)
content-fed after_u (a ∷ b ∷ c ∷ d ∷ xs) =
    each_then (λ u. cond (is_high_surrogate u) (content (after_high u) (fed xs)) (cond (is_low_surrogate u) None (prepend (encode_utf8 u) (content plain (fed xs)))))
    (λ u. cond (is_high_surrogate u) (content (after_high u) xs) (cond (is_low_surrogate u) None (prepend (encode_utf8 u) (content plain xs))))
    (code_unit a b c d)
    (λ u. ap₂ (λ h p. cond (is_high_surrogate u) h (cond (is_low_surrogate u) None (prepend (encode_utf8 u) p))) (content-fed (after_high u) xs) (content-fed plain xs))
content-fed (after_high h) [] = refl
content-fed (after_high h) (s ∷ []) = refl
content-fed (after_high h) (s ∷ u ∷ []) = refl
content-fed (after_high h) (s ∷ u ∷ a ∷ []) = refl
content-fed (after_high h) (s ∷ u ∷ a ∷ b ∷ []) = refl
content-fed (after_high h) (s ∷ u ∷ a ∷ b ∷ c ∷ []) =
    ap (λ o. cond ((s == ascii.backslash) && (u == ascii.lower_u)) (option_and_then (λ l. cond (is_low_surrogate l) (prepend (encode_utf8 (surrogate_pair h l)) (content plain [])) None) o) None) (code_unit-feed a b c)
    ∙ either_same ((s == ascii.backslash) && (u == ascii.lower_u)) None
content-fed (after_high h) (s ∷ u ∷ a ∷ b ∷ c ∷ d ∷ xs) =
    ap (λ o. cond ((s == ascii.backslash) && (u == ascii.lower_u)) o None)
    (each_then (λ l. cond (is_low_surrogate l) (prepend (encode_utf8 (surrogate_pair h l)) (content plain (fed xs))) None)
    (λ l. cond (is_low_surrogate l) (prepend (encode_utf8 (surrogate_pair h l)) (content plain xs)) None)
    (code_unit a b c d)
    (λ l. ap (λ p. cond (is_low_surrogate l) (prepend (encode_utf8 (surrogate_pair h l)) p) None) (content-fed plain xs)))

-- ---- words

cond-fed : (b : Bool) (s t : List ℕ) → cond b (fed s) (fed t) ≡ fed (cond b s t)
cond-fed true s t = refl
cond-fed false s t = refl

cond-map-fed : (b : Bool) (o p : Option (List ℕ)) → cond b (option_map fed o) (option_map fed p) ≡ option_map fed (cond b o p)
cond-map-fed true o p = refl
cond-map-fed false o p = refl

then-map-fed : (f : List ℕ → Option (List ℕ)) → ((t : List ℕ) → f (fed t) ≡ option_map fed (f t)) → (o : Option (List ℕ)) → option_and_then f (option_map fed o) ≡ option_map fed (option_and_then f o)
then-map-fed f same None = refl
then-map-fed f same (Some t) = same t

ends_word-fed : (t : List ℕ) → ends_word (fed t) ≡ ends_word t
ends_word-fed [] = refl
ends_word-fed (x ∷ xs) = refl

after_minus-fed : (t : List ℕ) → after_minus (fed t) ≡ fed (after_minus t)
after_minus-fed [] = refl
after_minus-fed (x ∷ xs) = cond-fed (x == ascii.minus) xs (x ∷ xs)

after_sign-fed : (t : List ℕ) → after_sign (fed t) ≡ fed (after_sign t)
after_sign-fed [] = refl
after_sign-fed (x ∷ xs) = cond-fed ((x == ascii.minus) || (x == ascii.plus)) xs (x ∷ xs)

prefix_len-fed : (t : List ℕ) → prefix_len is_ascii_digit (fed t) ≡ prefix_len is_ascii_digit t
prefix_len-fed [] = refl
prefix_len-fed (x ∷ xs) = ap (λ n. cond (is_ascii_digit x) (1 + n) 0) (prefix_len-fed xs)

after_digits-fed : (t : List ℕ) → after_digits (fed t) ≡ option_map fed (after_digits t)
after_digits-fed t =
    let n : ℕ = prefix_len is_ascii_digit t in
    ap (λ m. cond (m == 0) None (Some (drop m (fed t)))) (prefix_len-fed t)
    ∙ ap (λ rest. cond (n == 0) None (Some rest)) (drop-append-le n t (10 ∷ []) (prefix_len-le-length is_ascii_digit t))
    ∙ cond-map-fed (n == 0) None (Some (drop n t))

after_whole-fed : (t : List ℕ) → after_whole (fed t) ≡ option_map fed (after_whole t)
after_whole-fed [] = refl
after_whole-fed (x ∷ xs) =
    ap (λ o. cond (x == ascii.zero) (Some (fed xs)) o) (after_digits-fed (x ∷ xs))
    ∙ cond-map-fed (x == ascii.zero) (Some xs) (after_digits (x ∷ xs))

after_fraction-fed : (t : List ℕ) → after_fraction (fed t) ≡ option_map fed (after_fraction t)
after_fraction-fed [] = refl
after_fraction-fed (x ∷ xs) =
    ap (λ o. cond (x == ascii.dot) o (Some (fed (x ∷ xs)))) (after_digits-fed xs)
    ∙ cond-map-fed (x == ascii.dot) (after_digits xs) (Some (x ∷ xs))

after_exponent-fed : (t : List ℕ) → after_exponent (fed t) ≡ option_map fed (after_exponent t)
after_exponent-fed [] = refl
after_exponent-fed (x ∷ xs) =
    ap (λ o. cond ((x == ascii.lower_e) || (x == ascii.upper_e)) o (Some (fed (x ∷ xs)))) (ap after_digits (after_sign-fed xs) ∙ after_digits-fed (after_sign xs))
    ∙ cond-map-fed ((x == ascii.lower_e) || (x == ascii.upper_e)) (after_digits (after_sign xs)) (Some (x ∷ xs))

after_number-fed : (t : List ℕ) → after_number (fed t) ≡ option_map fed (after_number t)
unfolding after_number
after_number-fed t =
    ap (λ s. option_and_then after_exponent (option_and_then after_fraction (after_whole s))) (after_minus-fed t)
    ∙ ap (λ o. option_and_then after_exponent (option_and_then after_fraction o)) (after_whole-fed (after_minus t))
    ∙ ap (option_and_then after_exponent) (then-map-fed after_fraction after_fraction-fed (after_whole (after_minus t)))
    ∙ then-map-fed after_exponent after_exponent-fed (option_and_then after_fraction (after_whole (after_minus t)))

number_before-fed : (t : List ℕ) (o : Option (List ℕ)) → number_before (fed t) (option_map fed o) ≡ number_before t o
number_before-fed t None = refl
number_before-fed t (Some rest) =
    let longer : length (fed t) ≡ length t + 1 = length-append t (10 ∷ []) in
    let longer_rest : length (fed rest) ≡ length rest + 1 = length-append rest (10 ∷ []) in
    let size : length (fed t) - length (fed rest) ≡ length t - length rest = omega arith in
    ap₂ (λ b n. cond b (number (take n (fed t))) bad) (ends_word-fed rest) size
    ∙ ap (λ s. cond (ends_word rest) (number s) bad) (take-append-le (length t - length rest) t (10 ∷ []) (omega arith))

-- no line feed in a name
abbrev HasNoFeed : List ℕ → Type 0
HasNoFeed [] = Unit {0}
HasNoFeed (n ∷ ns) = (nat_eq n 10 ≡ false) × HasNoFeed ns

regroup : (b p e p' e' : Bool) → (p && e) ≡ (p' && e') → ((b && p) && e) ≡ ((b && p') && e')
regroup true p e p' e' same = same
regroup false p e p' e' same = refl

literal-fed : (name : List ℕ) → HasNoFeed name → (t : List ℕ) → (pointwise nat_eq name (take (length name) (fed t)) && ends_word (drop (length name) (fed t))) ≡ (pointwise nat_eq name (take (length name) t) && ends_word (drop (length name) t))
literal-fed [] h t = ends_word-fed t
literal-fed (n ∷ ns) h [] = ap (λ b. (b && pointwise nat_eq ns (take (length ns) [])) && ends_word (drop (length ns) [])) h.0
literal-fed (n ∷ ns) h (x ∷ xs) =
    regroup (nat_eq n x) (pointwise nat_eq ns (take (length ns) (fed xs))) (ends_word (drop (length ns) (fed xs))) (pointwise nat_eq ns (take (length ns) xs)) (ends_word (drop (length ns) xs)) (literal-fed ns h.1 xs)

word-fed : (x : ℕ) (xs : List ℕ) → word (fed (x ∷ xs)) ≡ word (x ∷ xs)
unfolding word
word-fed x xs =
    let number_same : number_before (fed (x ∷ xs)) (after_number (fed (x ∷ xs))) ≡ number_before (x ∷ xs) (after_number (x ∷ xs)) =
    ap (number_before (fed (x ∷ xs))) (after_number-fed (x ∷ xs)) ∙ number_before-fed (x ∷ xs) (after_number (x ∷ xs)) in
    let true_same : literal ascii.true_text (boolean true) (fed (x ∷ xs)) ≡ literal ascii.true_text (boolean true) (x ∷ xs) = ap (λ b. cond b (boolean true) bad) (literal-fed ascii.true_text (refl, (refl, (refl, (refl, tt)))) (x ∷ xs)) in
    let false_same : literal ascii.false_text (boolean false) (fed (x ∷ xs)) ≡ literal ascii.false_text (boolean false) (x ∷ xs) = ap (λ b. cond b (boolean false) bad) (literal-fed ascii.false_text (refl, (refl, (refl, (refl, (refl, tt))))) (x ∷ xs)) in
    let null_same : literal ascii.null_text null (fed (x ∷ xs)) ≡ literal ascii.null_text null (x ∷ xs) = ap (λ b. cond b null bad) (literal-fed ascii.null_text (refl, (refl, (refl, (refl, tt)))) (x ∷ xs)) in
    ap₂ (λ a b. cond (x == ascii.lower_t) a b) true_same
    (ap₂ (λ a b. cond (x == ascii.lower_f) a b) false_same
    (ap₂ (λ a b. cond (x == ascii.lower_n) a b) null_same number_same))

-- ---- texts

lex_byte-fed : (m : Mode) (c : Class) (x : ℕ) (xs : List ℕ) → ((next : Mode) → lex next (fed xs) ≡ lex next xs) → lex_byte m c x (fed xs) (λ next. lex next (fed xs)) ≡ lex_byte m c x xs (λ next. lex next xs)
lex_byte-fed between quote x xs rest = ap₂ (λ o l. token (string_token o) ∷ l) (content-fed plain xs) (rest in_string)
lex_byte-fed between backslash x xs rest = ap (λ l. token bad ∷ l) (rest in_word)
lex_byte-fed between operator x xs rest = ap (λ l. operator_lexeme x ∷ l) (rest between)
lex_byte-fed between space x xs rest = rest between
lex_byte-fed between other x xs rest = ap₂ (λ w l. token w ∷ l) (word-fed x xs) (rest in_word)
lex_byte-fed in_word quote x xs rest = rest in_word
lex_byte-fed in_word backslash x xs rest = rest in_word
lex_byte-fed in_word operator x xs rest = ap (λ l. operator_lexeme x ∷ l) (rest between)
lex_byte-fed in_word space x xs rest = rest between
lex_byte-fed in_word other x xs rest = rest in_word
lex_byte-fed in_string quote x xs rest = rest between
lex_byte-fed in_string backslash x xs rest = rest in_escape
lex_byte-fed in_string operator x xs rest = rest in_string
lex_byte-fed in_string space x xs rest = rest in_string
lex_byte-fed in_string other x xs rest = rest in_string
lex_byte-fed in_escape c x xs rest = rest in_string

lex-fed : (m : Mode) (t : List ℕ) → lex m (fed t) ≡ lex m t
unfolding lex
lex-fed between [] = refl
lex-fed in_word [] = refl
lex-fed in_string [] = refl
lex-fed in_escape [] = refl
lex-fed m (x ∷ xs) = lex_byte-fed m (class x) x xs (λ next. lex-fed next xs)

read-fed : (t : List ℕ) → read (fed t) ≡ read t
read-fed t = ap (λ ts. option_and_then Rattle.serde_json.specs.Read.of_json (option_and_then (λ p. Rattle.json.specs.Json.if_last p.0 p.1) (Rattle.json.specs.Json.value 127 ts))) (ap (punctuate fresh) (lex-fed between t))

-- a text with a line feed behind it says what the text says
pub json_of_fed : (t : List ℕ) (d : Data) → IsUtf8 t → read t ≡ Some d → json_of (t ++ 10 ∷ []) ≡ Some d
unfolding json_of
json_of_fed t d utf8 is =
    let line_feed : IsUtf8 (10 ∷ []) = IsUtf8-are_ascii (10 ∷ []) refl in
    ap (λ b. cond b (read (fed t)) None) (is_utf8-from_IsUtf8 (fed t) (IsUtf8-append t (10 ∷ []) utf8 line_feed)) ∙ read-fed t ∙ is
