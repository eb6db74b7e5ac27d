-- A text that is too long is neither a key nor a value.
use Rattle.std.proofs.Common.{◌≡◌, ◌<◌, ℕ, Bool, true, false, List, length, Some, None, if◌then◌else◌, refl}
use Rattle.std.specs.Prelude.{◌&&◌, nat_le}
use Rattle.std.specs.List.{list_all}
use Rattle.std.proofs.lemmas.Bool.{lt-leb}
use Rattle.helios_model.specs.Limits.{most_key_bytes, most_value_bytes}
use Rattle.helios_model.specs.Spellings.{is_key_byte, key_of, value_of}

never : (some few all : Bool) (text : List ℕ) → few ≡ false → (if some && few && all then Some text else None) ≡ None
never true few all text is = rw is refl
never false few all text is = refl

pub no_long_key : (text : List ℕ) → most_key_bytes < length text → key_of text ≡ None
unfolding key_of
no_long_key text long = never (nat_le 1 (length text)) (nat_le (length text) most_key_bytes) (list_all is_key_byte text) text (lt-leb (length text) most_key_bytes long)

pub no_long_value : (text : List ℕ) → most_value_bytes < length text → value_of text ≡ None
unfolding value_of
no_long_value text long = rw (lt-leb (length text) most_value_bytes long) refl
