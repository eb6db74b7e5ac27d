-- What a text spells: a number, an id, a version, a key, a value or a name.
use Rattle.std.specs.Prelude.{ℕ, ◌+◌, ◌-◌, ◌*◌, ◌^◌, ◌&&◌, ◌||◌, ◌==◌, Bool, not, List, [], ◌∷◌, length, slice_index, Option, Some, None, option_map, option_and_then, nat_lt, nat_le, if◌then◌else◌, codes}
use Rattle.std.specs.Char.{is_ascii_digit}
use Rattle.std.specs.List.{before_first, after_first, list_all}
use Rattle.std.specs.Str.{bytes_eq}
use Rattle.helios_model.specs.declared.ids.TxnId.{TxnId}
use Rattle.helios_model.specs.declared.ids.Version.{Version}
use Rattle.helios_model.specs.declared.ids.Version.TheVariants.{Initial, Of}
use Rattle.helios_model.specs.Limits.{last_time, most_key_bytes, most_name_bytes, most_sites, most_value_bytes}

-- one digit, or more of which the first is not 0
abbrev pub has_plain_front : List ℕ → Bool
has_plain_front digits = length digits == 1 || (nat_lt 1 (length digits) && not (slice_index digits 0 == 48))

-- decimal digits, one or more, with no 0 in front of others
abbrev pub is_plain : List ℕ → Bool
is_plain digits = has_plain_front digits && list_all is_ascii_digit digits

-- the number that digits write, behind those of n
abbrev pub number_after : ℕ → List ℕ → ℕ
number_after n [] = n
number_after n (digit ∷ digits) = number_after (n * 10 + (digit - 48)) digits

-- the number below 2^64 that a text writes
unfoldable pub number_of : List ℕ → Option ℕ
number_of text = if is_plain text && nat_lt (number_after 0 text) (2 ^ 64) then Some (number_after 0 text) else None

-- the id of a site below 32 and a time from 1 to the last
unfoldable pub id_from : ℕ → ℕ → Option TxnId
id_from site time = if nat_lt site most_sites && nat_le 1 time && nat_le time last_time then Some (record { site = site; time = time }) else None

-- the sign `@`, which stands between the site and the time of an id
abbrev pub is_at : ℕ → Bool
is_at byte = byte == 64

infixl 10 ◌>>=◌
-- what comes of a value that is there
abbrev ◌>>=◌ : {A B : Type 0} → Option A → (A → Option B) → Option B
found >>= next = option_and_then next found

-- the id that a text spells as SITE@TIME
unfoldable pub id_of : List ℕ → Option TxnId
id_of text = do
  site ← number_of (before_first is_at text)
  time ← number_of (after_first is_at text)
  id_from site time

-- the version that a text spells: `initial` or an id
unfoldable pub version_of : List ℕ → Option Version
version_of text = if bytes_eq text (codes "initial") then Some Initial else option_map Of (id_of text)

-- a byte of a key: printable ASCII without the blank and `=`
abbrev pub is_key_byte : ℕ → Bool
is_key_byte byte = nat_le 33 byte && nat_le byte 126 && not (byte == 61)

-- 1 to 64 such bytes
abbrev pub is_key : List ℕ → Bool
is_key bytes = nat_le 1 (length bytes) && nat_le (length bytes) most_key_bytes && list_all is_key_byte bytes

-- the key that a text is
unfoldable pub key_of : List ℕ → Option (List ℕ)
key_of bytes = if is_key bytes then Some bytes else None

-- the stored value that a text is: at most 1024 bytes
unfoldable pub value_of : List ℕ → Option (List ℕ)
value_of bytes = if nat_le (length bytes) most_value_bytes then Some bytes else None

-- a byte of a name: printable ASCII without the blank
abbrev pub is_name_byte : ℕ → Bool
is_name_byte byte = nat_le 33 byte && nat_le byte 126

-- 1 to 32 such bytes
unfoldable pub is_name : List ℕ → Bool
is_name bytes = not (length bytes == 0) && nat_le (length bytes) most_name_bytes && list_all is_name_byte bytes
