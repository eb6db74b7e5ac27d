-- What was read is a head of the one form, whose spelling the input is.
use Rattle.std.proofs.Common.{◌≡◌, ℕ, ◌<◌, true, nat_lt, List, [], ◌∷◌, ◌++◌, length, All, Ok, sym, ap, subst, ◌∙◌, arith}
use Rattle.std.proofs.lemmas.Bool.{ltb-true}
use Rattle.std.proofs.lemmas.List.{append-nil, length-append}
use Rattle.helios_model.specs.Limits.{most_sites}
use Rattle.log_records.specs.declared.heads.Head.{Head}
use Rattle.log_records.specs.Fields.{◌>>=◌, is_within, byte_at, text_at}
use Rattle.log_records.specs.Heads.{head_bytes, head_at, head_of, whole_input, IsSpellableHead}
use Rattle.log_records.proofs.Differ.{bind_ok, ok_is, within}
use Rattle.log_records.proofs.EntryTaken.{empty_is, none_left}
use Rattle.log_records.proofs.HeadFields.{head_again}
use Rattle.log_records.proofs.Taken.{AreBytes, Begins, Begins-then, are_bytes, byte_taken, text_taken}

head_taken : (whole : ℕ) (bytes : List ℕ) (y : Head × List ℕ) → AreBytes bytes → head_at whole bytes ≡ Ok y → Begins bytes (head_bytes y.0) y.1 × IsSpellableHead y.0
unfolding head_at
head_taken whole bytes y h e =
    let a = bind_ok (byte_at (is_within 1 1) whole bytes)
    (λ version. text_at (λ text. true) 32 whole version.1 >>= λ fingerprint. byte_at (λ b. nat_lt b most_sites) whole fingerprint.1 >>= λ site.
    Ok (record { version = version.0; fingerprint = fingerprint.0; site = site.0 }, site.1)) y e in
    let b = bind_ok (text_at (λ text. true) 32 whole a.0.1)
    (λ fingerprint. byte_at (λ b. nat_lt b most_sites) whole fingerprint.1 >>= λ site. Ok (record { version = a.0.0; fingerprint = fingerprint.0; site = site.0 }, site.1)) y a.2 in
    let c = bind_ok (byte_at (λ b. nat_lt b most_sites) whole b.0.1) (λ site. Ok (record { version = a.0.0; fingerprint = b.0.0; site = site.0 }, site.1)) y b.2 in
    let v = byte_taken (is_within 1 1) whole bytes a.0 h a.1 in
    let t = text_taken (λ text. true) 32 whole a.0.1 b.0 v.0.left b.1 in
    let s = byte_taken (λ b. nat_lt b most_sites) whole b.0.1 c.0 t.begins.left c.1 in
    let form = within 1 1 a.0.0 v.1 in
    let low = form.0 in
    let high = form.1 in
    let made : Head × List ℕ = (record { version = a.0.0; fingerprint = b.0.0; site = c.0.0 }, c.0.1) in
    subst (λ (p : Head × List ℕ). Begins bytes (head_bytes p.0) p.1 × IsSpellableHead p.0) (ok_is made y c.2) (
      Begins-then bytes (a.0.0 ∷ []) a.0.1 (b.0.0 ++ c.0.0 ∷ []) c.0.1 v.0 (Begins-then a.0.1 b.0.0 b.0.1 (c.0.0 ∷ []) c.0.1 t.begins s.0),
      record { form = omega (arith, low, high); whole = t.long; here = ltb-true c.0.0 most_sites s.1 },
    )

pub head_read : (bytes : List ℕ) (head : Head) → All (λ b. b < 256) bytes → head_of bytes ≡ Ok head → IsSpellableHead head × (bytes ≡ head_bytes head)
unfolding head_of
head_read bytes head h e =
    let a = bind_ok (head_at (length bytes) bytes) (whole_input (length bytes)) head e in
    let t = head_taken (length bytes) bytes a.0 (are_bytes bytes h) a.1 in
    let n = none_left (length bytes) a.0 head a.2 in
    let parts : bytes ≡ head_bytes a.0.0 = t.0.parts ∙ ap (λ (rest : List ℕ). head_bytes a.0.0 ++ rest) n.1 ∙ append-nil (head_bytes a.0.0) in
    (subst IsSpellableHead n.0 t.1, parts ∙ ap head_bytes n.0)

head_long : (head : Head) → IsSpellableHead head → length (head_bytes head) ≡ 34
head_long head h = omega (arith, h.whole, length-append (head.version ∷ head.fingerprint) (head.site ∷ []))

pub heads_alone : (head other : Head) (rest : List ℕ) → IsSpellableHead head → IsSpellableHead other → head_bytes other ≡ head_bytes head ++ rest → (head ≡ other) × (rest ≡ [])
heads_alone head other rest h g e =
    let none : rest ≡ [] = empty_is rest (omega (arith, head_long head h, head_long other g, ap length e, length-append (head_bytes head) rest)) in
    let same : head_bytes other ≡ head_bytes head = e ∙ ap (λ (xs : List ℕ). head_bytes head ++ xs) none ∙ append-nil (head_bytes head) in
    (ok_is head other (sym (head_again head h) ∙ ap head_of (sym same) ∙ head_again other g), none)
