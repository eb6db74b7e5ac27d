-- What a value says as a transaction of a history.
use Rattle.std.specs.Prelude.{Bool, List, Option, Some, None, if◌then◌else◌, codes}
use Rattle.std.specs.List.{list_any}
use Rattle.serde_json.specs.Data.{Data}
use Rattle.serde_json.specs.Find.{get}
use Rattle.helios_model.specs.Ids.{same_id}
use Rattle.helios_model.specs.declared.ids.TxnId.{TxnId}
use Rattle.json_text.specs.Members.{array_member}
use Rattle.json_text.specs.Spelled.{id_at, key_at}
use Rattle.json_text.specs.Transactions.{keyed_of, read_at}
use Rattle.json_text.specs.Unread.{◌>>=◌}
use Rattle.history_audit.specs.declared.history.Item.{Item}

-- {"id":ID,"reads":[[KEY,VERSION],..],"writes":[KEY,..]}, with at most 16 reads and 16 writes, each of distinct keys
unfoldable pub item_at : Data → Option Item
item_at d = do
  id ← get (codes "id") d >>= id_at
  reads ← array_member (codes "reads") d >>= keyed_of (λ r. r.key) read_at
  writes ← array_member (codes "writes") d >>= keyed_of (λ key. key) key_at
  Some (record { id = id; reads = reads; writes = writes })

-- whether the id is one of these
abbrev pub is_among : List TxnId → TxnId → Bool
is_among ids id = list_any (λ other. same_id other id) ids

-- whether one of these transactions has the id
abbrev pub is_given : TxnId → List Item → Bool
is_given id earlier = list_any (λ item. same_id item.id id) earlier

-- the transaction that a value says, where its id was not given before
unfoldable pub fresh_item : (TxnId → Bool) → Data → Option Item
fresh_item given d = do
  found ← item_at d
  if given found.id then None else Some found

-- the transaction that a value says behind the earlier ones
abbrev pub next_item : List Item → Data → Option Item
next_item earlier d = fresh_item (λ id. is_given id earlier) d
