-- A text's value, from the clauses of `serde_json`.
use Rattle.std.proofs.Common.{◌≡◌, ℕ, Bool, true, false, List, Some, None, refl, sym, ◌∙◌, ap, cond}
use Rattle.std.specs.Str.{is_utf8, IsUtf8}
use Rattle.std.proofs.lemmas.Str.{IsUtf8-from_is_utf8, is_utf8-from_IsUtf8}
use Rattle.serde_json.specs.Data.{Data}
use Rattle.serde_json.specs.Read.{read}
use Rattle.json_text.specs.Text.{json_of}

pub found : (bytes : List ℕ) (d : Data) → IsUtf8 bytes → read bytes ≡ Some d → Some d ≡ json_of bytes
unfolding json_of
found bytes d utf8 is = sym (ap (λ b. cond b (read bytes) None) (is_utf8-from_IsUtf8 bytes utf8) ∙ is)

pub refused : (bytes : List ℕ) → (IsUtf8 bytes → read bytes ≡ None) → None ≡ json_of bytes
unfolding json_of
refused bytes none = sym (refused_at (is_utf8 bytes) refl)
  where
    refused_at : (b : Bool) → is_utf8 bytes ≡ b → cond b (read bytes) None ≡ None
    refused_at true is = none (IsUtf8-from_is_utf8 bytes is)
    refused_at false is = refl
