-- So many bytes that are a key.
use Rattle.std.proofs.Common.{◌≡◌, ℕ, ◌-◌, ◌≤◌, ◌&&◌, Bool, true, false, not, cond, ltb, List, length, take, drop, Some, None, Result, Ok, Err, refl, sym, ap, ◌∙◌, arith, IsErr}
use Rattle.std.proofs.lemmas.Bool.{ltb-false}
use Rattle.std.proofs.lemmas.List.{length-take}
use Rattle.std.proofs.lemmas.Option.{cond_some}
use Rattle.helios_model.specs.Spellings.{is_key, key_of}
use Rattle.log_records.specs.declared.faults.DecodeFault.{DecodeFault}
use Rattle.log_records.specs.declared.faults.DecodeFault.TheVariants.{Cut, Bad}
use Rattle.log_records.specs.Fields.{ruled, text_at}
use Rattle.link_codec.proofs.Steps.{ruled_ok}

taken : (n whole : ℕ) (bytes text after : List ℕ) → text_at (λ t. true) n whole bytes ≡ Ok (text, after) → (ltb (length bytes) n ≡ false) × (take n bytes ≡ text) × (drop n bytes ≡ after)
unfolding text_at
taken n whole bytes text after e =
    let front : List ℕ × List ℕ = (take n bytes, drop n bytes) in
    let back : List ℕ × List ℕ = (text, after) in
    let t = ruled_ok (ltb (length bytes) n) true front back (Bad (whole - length bytes)) Cut e in
    (t.0, ap (λ (p : List ℕ × List ℕ). p.0) t.2, ap (λ (p : List ℕ × List ℕ). p.1) t.2)

none_cond : {A : Type 0} (b : Bool) (x : A) → cond b (Some x) None ≡ None → b ≡ false
none_cond true x e = absurd cc
none_cond false x e = refl

pub key_is : (n whole : ℕ) (bytes text after key : List ℕ) → text_at (λ t. true) n whole bytes ≡ Ok (text, after) → key_of text ≡ Some key
    → text_at (λ k. is_key k && not false) n whole bytes ≡ Ok (key, after)
unfolding text_at key_of
key_is n whole bytes text after key e k =
    let t = taken n whole bytes text after e in
    let p = cond_some (is_key text) text key k in
    rw (t.0, t.1, t.2, p.0, p.1) refl

pub key_refused : (n whole : ℕ) (bytes text after : List ℕ) → text_at (λ t. true) n whole bytes ≡ Ok (text, after) → key_of text ≡ None
    → IsErr (text_at (λ k. is_key k && not false) n whole bytes)
unfolding text_at key_of
key_refused n whole bytes text after e k =
    let t = taken n whole bytes text after e in
    rw (t.0, t.1, none_cond (is_key text) text k) refl

cut_short : {X : Type 0} (short : Bool) (x : X) (rest : Result X DecodeFault) → IsErr (cond {A = Result X DecodeFault} short (Err Cut) (Ok x)) → IsErr (cond {A = Result X DecodeFault} short (Err Cut) rest)
cut_short true x rest e = refl
cut_short false x rest e = absurd cc

-- bytes that were not taken as they are are no text with a rule either
pub text_refused : (rule : List ℕ → Bool) (n whole : ℕ) (bytes : List ℕ) → IsErr (text_at (λ t. true) n whole bytes) → IsErr (text_at rule n whole bytes)
unfolding text_at
text_refused rule n whole bytes e =
    let front : List ℕ × List ℕ = (take n bytes, drop n bytes) in
    cut_short (ltb (length bytes) n) front (ruled (rule (take n bytes)) whole bytes (take n bytes) (drop n bytes)) e

-- as many were taken as were asked for
pub text_long : (n whole : ℕ) (bytes text after : List ℕ) → text_at (λ t. true) n whole bytes ≡ Ok (text, after) → length text ≡ n
text_long n whole bytes text after e =
    let t = taken n whole bytes text after e in
    let long : n ≤ length bytes = ltb-false _ _ t.0 in
    ap length (sym t.1) ∙ omega (arith, length-take n bytes)
