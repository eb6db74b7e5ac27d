-- Reads, puts and writes: a byte for how many, from 0 to 16, and each in turn. A key that was given before in its list is refused.
use Rattle.std.specs.Prelude.{ℕ, Bool, List, [], ◌∷◌, ◌++◌, length, Result, Ok}
use Rattle.std.specs.List.{flat_map, list_any}
use Rattle.helios_model.specs.declared.transactions.ReadItem.{ReadItem}
use Rattle.helios_model.specs.declared.transactions.PutItem.{PutItem}
use Rattle.helios_model.specs.declared.transactions.WriteItem.{WriteItem}
use Rattle.helios_model.specs.Limits.{most_items}
use Rattle.helios_model.specs.Texts.{same_text}
use Rattle.log_records.specs.declared.faults.DecodeFault.{DecodeFault}
use Rattle.log_records.specs.Fields.{◌>>=◌, is_within, byte_at, each_after}
use Rattle.log_records.specs.Ids.{version_bytes, version_at}
use Rattle.log_records.specs.Keys.{key_bytes, key_at, value_bytes, value_at}

-- some item has this key
abbrev pub is_given : {X : Type 0} → (X → List ℕ) → List X → List ℕ → Bool
is_given key_of items key = list_any (λ item. same_text key (key_of item)) items

-- how many there are, and each in turn
abbrev pub list_bytes : {X : Type 0} → (X → List ℕ) → List X → List ℕ
list_bytes bytes_of items = length items ∷ flat_map bytes_of items

abbrev pub list_at : {X : Type 0} → (List X → List ℕ → Result (X × List ℕ) DecodeFault) → ℕ → List ℕ → Result (List X × List ℕ) DecodeFault
list_at item whole bytes = byte_at (is_within 0 most_items) whole bytes >>= λ n. each_after item n.0 [] n.1

abbrev pub read_bytes : ReadItem → List ℕ
read_bytes r = key_bytes r.key ++ version_bytes r.version

unfoldable pub read_at : ℕ → List ReadItem → List ℕ → Result (ReadItem × List ℕ) DecodeFault
read_at whole before bytes = do
  key ← key_at (is_given (λ r. r.key) before) whole bytes
  version ← version_at whole key.1
  Ok (record { key = key.0; version = version.0 }, version.1)

abbrev pub reads_bytes : List ReadItem → List ℕ
reads_bytes reads = list_bytes read_bytes reads

unfoldable pub reads_at : ℕ → List ℕ → Result (List ReadItem × List ℕ) DecodeFault
reads_at whole bytes = list_at (read_at whole) whole bytes

abbrev pub put_bytes : PutItem → List ℕ
put_bytes p = key_bytes p.key ++ value_bytes p.value

unfoldable pub put_at : ℕ → List PutItem → List ℕ → Result (PutItem × List ℕ) DecodeFault
put_at whole before bytes = do
  key ← key_at (is_given (λ p. p.key) before) whole bytes
  value ← value_at whole key.1
  Ok (record { key = key.0; value = value.0 }, value.1)

abbrev pub puts_bytes : List PutItem → List ℕ
puts_bytes puts = list_bytes put_bytes puts

unfoldable pub puts_at : ℕ → List ℕ → Result (List PutItem × List ℕ) DecodeFault
puts_at whole bytes = list_at (put_at whole) whole bytes

-- as a put, followed by the version that it overwrites
abbrev pub write_bytes : WriteItem → List ℕ
write_bytes w = key_bytes w.key ++ value_bytes w.value ++ version_bytes w.over

unfoldable pub write_at : ℕ → List WriteItem → List ℕ → Result (WriteItem × List ℕ) DecodeFault
write_at whole before bytes = do
  key ← key_at (is_given (λ w. w.key) before) whole bytes
  value ← value_at whole key.1
  over ← version_at whole value.1
  Ok (record { key = key.0; value = value.0; over = over.0 }, over.1)

abbrev pub writes_bytes : List WriteItem → List ℕ
writes_bytes writes = list_bytes write_bytes writes

unfoldable pub writes_at : ℕ → List ℕ → Result (List WriteItem × List ℕ) DecodeFault
writes_at whole bytes = list_at (write_at whole) whole bytes
