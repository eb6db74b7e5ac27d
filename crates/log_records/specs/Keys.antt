-- Keys and stored values: a key is a byte for its length, from 1 to 64, and its bytes; a value is 2 bytes for its length, from 0
-- to 1024, and its bytes.
use Rattle.std.specs.Prelude.{ℕ, ◌&&◌, Bool, true, not, List, ◌∷◌, ◌++◌, length, Result}
use Rattle.std.specs.Int.{w16, to_be_bytes}
use Rattle.helios_model.specs.Limits.{most_key_bytes, most_value_bytes}
use Rattle.helios_model.specs.Spellings.{is_key}
use Rattle.log_records.specs.declared.faults.DecodeFault.{DecodeFault}
use Rattle.log_records.specs.Fields.{◌>>=◌, is_within, byte_at, number_at, text_at}

abbrev pub key_bytes : List ℕ → List ℕ
key_bytes key = length key ∷ key

-- a key that was not given before
unfoldable pub key_at : (List ℕ → Bool) → ℕ → List ℕ → Result (List ℕ × List ℕ) DecodeFault
key_at is_given whole bytes = do
  n ← byte_at (is_within 1 most_key_bytes) whole bytes
  text_at (λ key. is_key key && not (is_given key)) n.0 whole n.1

abbrev pub value_bytes : List ℕ → List ℕ
value_bytes value = to_be_bytes w16 (length value) ++ value

unfoldable pub value_at : ℕ → List ℕ → Result (List ℕ × List ℕ) DecodeFault
value_at whole bytes = do
  n ← number_at w16 (is_within 0 most_value_bytes) whole bytes
  text_at (λ value. true) n.0 whole n.1
