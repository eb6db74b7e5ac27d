-- What a value says as the reads and the writes of a transaction.
use Rattle.std.specs.Prelude.{ℕ, List, Option, Some, None, if◌then◌else◌}
use Rattle.serde_json.specs.Data.{Data, Items}
use Rattle.helios_model.specs.declared.transactions.PutItem.{PutItem}
use Rattle.helios_model.specs.declared.transactions.ReadItem.{ReadItem}
use Rattle.helios_model.specs.Limits.{most_items}
use Rattle.helios_model.specs.Texts.{all_differ}
use Rattle.json_text.specs.Lists.{parts_of}
use Rattle.json_text.specs.Members.{pair_at}
use Rattle.json_text.specs.Spelled.{key_at, value_at, version_at}
use Rattle.json_text.specs.Unread.{◌>>=◌}

-- a list in which no two items have the same key
abbrev pub differing : {T : Type 0} → (T → List ℕ) → List T → Option (List T)
differing key xs = if all_differ key xs then Some xs else None

-- at most 16 items, no two of the same key
unfoldable pub keyed_of : {T : Type 0} → (T → List ℕ) → (Data → Option T) → Items → Option (List T)
keyed_of key said items = parts_of most_items said items >>= differing key

-- a read, [KEY,VERSION]
unfoldable pub read_at : Data → Option ReadItem
read_at d = do
  pair ← pair_at d
  key ← key_at pair.0
  version ← version_at pair.1
  Some (record { key = key; version = version })

-- a write, [KEY,VALUE]
unfoldable pub put_at : Data → Option PutItem
put_at d = do
  pair ← pair_at d
  key ← key_at pair.0
  value ← value_at pair.1
  Some (record { key = key; value = value })
