-- Heads: their fields in turn, and that each is read again.
use Rattle.std.proofs.Common.{◌≡◌, ℕ, true, nat_lt, List, [], ◌∷◌, ◌++◌, length, Ok, refl, sym, ap, ◌∙◌}
use Rattle.std.proofs.lemmas.Bool.{lt-ltb}
use Rattle.helios_model.specs.Limits.{most_sites}
use Rattle.log_records.specs.declared.heads.Head.{Head}
use Rattle.log_records.specs.Fields.{is_within, byte_at, text_at}
use Rattle.log_records.specs.Heads.{head_bytes, head_at, head_of, IsSpellableHead}
use Rattle.log_records.proofs.Again.{byte_again, text_again}

pub head_is : (whole : ℕ) (bytes : List ℕ) (version : ℕ) (second text third : List ℕ) (site : ℕ) (rest : List ℕ)
    → byte_at (is_within 1 1) whole bytes ≡ Ok (version, second) → text_at (λ t. true) 32 whole second ≡ Ok (text, third) → byte_at (λ b. nat_lt b most_sites) whole third ≡ Ok (site, rest)
    → head_at whole bytes ≡ Ok (record { version = version; fingerprint = text; site = site }, rest)
unfolding head_at
head_is whole bytes version second text third site rest e f g = rw (e, f, g) refl

text_of : (n whole : ℕ) (text rest : List ℕ) → length text ≡ n → text_at (λ t. true) n whole (text ++ rest) ≡ Ok (text, rest)
text_of n whole text rest e = ap (λ (k : ℕ). text_at (λ t. true) k whole (text ++ rest)) (sym e) ∙ text_again (λ t. true) whole text rest refl

head_front : (whole : ℕ) (head : Head) → IsSpellableHead head → head_at whole (head_bytes head) ≡ Ok (head, [])
head_front whole head h =
    head_is whole (head_bytes head) head.version (head.fingerprint ++ head.site ∷ []) head.fingerprint (head.site ∷ []) head.site []
    (byte_again (is_within 1 1) whole head.version (head.fingerprint ++ head.site ∷ []) (ap (is_within 1 1) h.form))
    (text_of 32 whole head.fingerprint (head.site ∷ []) h.whole)
    (byte_again (λ b. nat_lt b most_sites) whole head.site [] (lt-ltb head.site most_sites h.here))

pub head_again : (head : Head) → IsSpellableHead head → head_of (head_bytes head) ≡ Ok head
unfolding head_of
head_again head h = rw (head_front (length (head_bytes head)) head h) refl
