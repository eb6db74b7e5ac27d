-- Fields that were taken, and items one after another.
use Rattle.std.proofs.Common.{◌≡◌, ℕ, suc, ◌+◌, ◌-◌, ◌<◌, ◌≤◌, ◌&&◌, Bool, true, false, not, cond, ltb, List, [], ◌∷◌, ◌++◌, length, take, drop, Some, None, Result, Ok, Err, refl, sym, ap, ◌∙◌, arith}
use Rattle.std.proofs.lemmas.Bool.{ltb-false}
use Rattle.std.proofs.lemmas.List.{length-take}
use Rattle.std.proofs.lemmas.Option.{cond_some}
use Rattle.helios_model.specs.Spellings.{is_key, key_of}
use Rattle.log_records.specs.declared.faults.DecodeFault.{DecodeFault}
use Rattle.log_records.specs.declared.faults.DecodeFault.TheVariants.{Cut, Bad, BadDigest, NoMemory}
use Rattle.log_records.specs.Fields.{◌>>=◌, ruled, text_at, each_after}
use Rattle.log_records.specs.Decoding.{Fails}

-- ---- a text whose bytes have a rule

-- a field that was neither cut nor refused
pub ruled_ok : {X : Type 0} (short accepted : Bool) (x y : X) (fault other : DecodeFault) → cond {A = Result X DecodeFault} short (Err other) (cond {A = Result X DecodeFault} accepted (Ok x) (Err fault)) ≡ Ok y → (short ≡ false) × (accepted ≡ true) × (x ≡ y)
ruled_ok true accepted x y fault other e = absurd cc
ruled_ok false true x y fault other e = (refl, refl, cc)
ruled_ok false false x y fault other e = absurd cc

taken : (n whole : ℕ) (bytes text after : List ℕ) → text_at (λ t. true) n whole bytes ≡ Ok (text, after) → (ltb (length bytes) n ≡ false) × (take n bytes ≡ text) × (drop n bytes ≡ after)
unfolding text_at
taken n whole bytes text after e =
    let front : List ℕ × List ℕ = (take n bytes, drop n bytes) in
    let back : List ℕ × List ℕ = (text, after) in
    let t = ruled_ok (ltb (length bytes) n) true front back (Bad (whole - length bytes)) Cut e in
    (t.0, ap (λ (p : List ℕ × List ℕ). p.0) t.2, ap (λ (p : List ℕ × List ℕ). p.1) t.2)

none_cond : {A : Type 0} (b : Bool) (x : A) → cond b (Some x) None ≡ None → b ≡ false
none_cond true x e = absurd cc
none_cond false x e = refl

pub key_is : (given : List ℕ → Bool) (n whole : ℕ) (bytes text after key : List ℕ) → text_at (λ t. true) n whole bytes ≡ Ok (text, after) → key_of text ≡ Some key → given key ≡ false
    → text_at (λ k. is_key k && not (given k)) n whole bytes ≡ Ok (key, after)
unfolding text_at key_of
key_is given n whole bytes text after key e k g =
    let t = taken n whole bytes text after e in
    let p = cond_some (is_key text) text key k in
    rw (t.0, t.1, t.2, p.0, p.1, g) refl

pub key_refused : (given : List ℕ → Bool) (n whole : ℕ) (bytes text after : List ℕ) → text_at (λ t. true) n whole bytes ≡ Ok (text, after) → key_of text ≡ None
    → text_at (λ k. is_key k && not (given k)) n whole bytes ≡ Err (Bad (whole - length bytes))
unfolding text_at key_of
key_refused given n whole bytes text after e k =
    let t = taken n whole bytes text after e in
    rw (t.0, t.1, none_cond (is_key text) text k) refl

pub key_given : (given : List ℕ → Bool) (n whole : ℕ) (bytes text after key : List ℕ) → text_at (λ t. true) n whole bytes ≡ Ok (text, after) → key_of text ≡ Some key → given key ≡ true
    → text_at (λ k. is_key k && not (given k)) n whole bytes ≡ Err (Bad (whole - length bytes))
unfolding text_at key_of
key_given given n whole bytes text after key e k g =
    let t = taken n whole bytes text after e in
    let p = cond_some (is_key text) text key k in
    rw (t.0, t.1, p.0, p.1, g) refl

cut_short : {X : Type 0} (short : Bool) (x : X) (other : DecodeFault) (rest : Result X DecodeFault) → cond {A = Result X DecodeFault} short (Err Cut) (Ok x) ≡ Err other → cond {A = Result X DecodeFault} short (Err Cut) rest ≡ Err other
cut_short true x other rest e = e
cut_short false x other rest e = absurd cc

-- bytes that were not taken as they are are no text with a rule either
pub text_fails : (rule : List ℕ → Bool) (fault : DecodeFault) (n whole : ℕ) (bytes : List ℕ) → Fails fault (text_at (λ t. true) n whole bytes) → Fails fault (text_at rule n whole bytes)
unfolding text_at
text_fails rule Cut n whole bytes e = let front : List ℕ × List ℕ = (take n bytes, drop n bytes) in cut_short (ltb (length bytes) n) front Cut (ruled (rule (take n bytes)) whole bytes (take n bytes) (drop n bytes)) e
text_fails rule (Bad at) n whole bytes e = let front : List ℕ × List ℕ = (take n bytes, drop n bytes) in cut_short (ltb (length bytes) n) front (Bad at) (ruled (rule (take n bytes)) whole bytes (take n bytes) (drop n bytes)) e
text_fails rule BadDigest n whole bytes e = let front : List ℕ × List ℕ = (take n bytes, drop n bytes) in cut_short (ltb (length bytes) n) front BadDigest (ruled (rule (take n bytes)) whole bytes (take n bytes) (drop n bytes)) e
text_fails rule NoMemory n whole bytes e = tt

-- ---- items one after another

pub each_more : {X : Type 0} (item : List X → List ℕ → Result (X × List ℕ) DecodeFault) (count i : ℕ) (before : List X) (bytes : List ℕ) (x : X) (after : List ℕ) → i < count → item before bytes ≡ Ok (x, after)
    → each_after item (count - i) before bytes ≡ each_after item (count - (i + 1)) (before ++ x ∷ []) after
unfolding each_after
each_more item count i before bytes x after lt e =
    let k : count - i ≡ suc (count - (i + 1)) = omega arith in
    rw (k, e) refl

pub each_done : {X : Type 0} (item : List X → List ℕ → Result (X × List ℕ) DecodeFault) (count i : ℕ) (before : List X) (bytes : List ℕ) → count ≤ i
    → each_after item (count - i) before bytes ≡ Ok (before, bytes)
unfolding each_after
each_done item count i before bytes le =
    let k : count - i ≡ 0 = omega arith in
    rw k refl

err_kept : {A B : Type 0} (r : Result A DecodeFault) (next : A → Result B DecodeFault) (fault : DecodeFault) → r ≡ Err fault → (r >>= next) ≡ Err fault
err_kept (Ok x) next fault e = absurd cc
err_kept (Err other) next fault e = cc

-- what fails at a field fails with what would have come of it
pub fails_then : {A B : Type 0} (r : Result A DecodeFault) (next : A → Result B DecodeFault) (fault : DecodeFault) → Fails fault r → Fails fault (r >>= next)
fails_then r next Cut e = err_kept r next Cut e
fails_then r next (Bad at) e = err_kept r next (Bad at) e
fails_then r next BadDigest e = err_kept r next BadDigest e
fails_then r next NoMemory e = tt

each_refused : {X : Type 0} (item : List X → List ℕ → Result (X × List ℕ) DecodeFault) (count i : ℕ) (before : List X) (bytes : List ℕ) (fault : DecodeFault) → i < count → item before bytes ≡ Err fault
    → each_after item (count - i) before bytes ≡ Err fault
unfolding each_after
each_refused item count i before bytes fault lt e =
    let k : count - i ≡ suc (count - (i + 1)) = omega arith in
    rw k (err_kept (item before bytes) (λ x. each_after item (count - (i + 1)) (before ++ x.0 ∷ []) x.1) fault e)

pub each_fails : {X : Type 0} (item : List X → List ℕ → Result (X × List ℕ) DecodeFault) (fault : DecodeFault) (count i : ℕ) (before : List X) (bytes : List ℕ) (total : Result (List X × List ℕ) DecodeFault) → i < count
    → each_after item (count - i) before bytes ≡ total → Fails fault (item before bytes) → Fails fault total
each_fails item Cut count i before bytes total lt so_far e = sym so_far ∙ each_refused item count i before bytes Cut lt e
each_fails item (Bad at) count i before bytes total lt so_far e = sym so_far ∙ each_refused item count i before bytes (Bad at) lt e
each_fails item BadDigest count i before bytes total lt so_far e = sym so_far ∙ each_refused item count i before bytes BadDigest lt e
each_fails item NoMemory count i before bytes total lt so_far e = tt

-- ---- how long a text is

pub text_long : (n whole : ℕ) (bytes text after : List ℕ) → text_at (λ t. true) n whole bytes ≡ Ok (text, after) → length text ≡ n
text_long n whole bytes text after e =
    let t = taken n whole bytes text after e in
    let long : n ≤ length bytes = ltb-false _ _ t.0 in
    ap length (sym t.1) ∙ omega (arith, length-take n bytes)
