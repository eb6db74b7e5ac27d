-- What a value says as the records of a site's log.
use Rattle.std.specs.Prelude.{ℕ, Bool, ◌&&◌, ◌||◌, nat_le, nat_lt, List, Option, Some, None, option_map, if◌then◌else◌, codes}
use Rattle.std.specs.List.{list_all}
use Rattle.std.specs.Result.{result_ok}
use Rattle.hex.specs.Hex.{decode_of}
use Rattle.serde_json.specs.Data.{Data, Items, no_items, item}
use Rattle.serde_json.specs.Find.{as_array, as_str, get}
use Rattle.helios_model.specs.Limits.{last_time, most_sites}
use Rattle.helios_model.specs.Spellings.{value_of}
use Rattle.helios_model.specs.Transactions.{Transaction}
use Rattle.helios_model.specs.declared.ids.TxnId.{TxnId}
use Rattle.helios_model.specs.declared.records.Record.{Record}
use Rattle.helios_model.specs.declared.records.Record.TheVariants.{Prepare, Commit, Abort}
use Rattle.helios_model.specs.declared.transactions.WriteItem.{WriteItem}
use Rattle.json_text.specs.Lists.{each_of}
use Rattle.json_text.specs.Members.{array_member, has_member, number_member}
use Rattle.json_text.specs.Spelled.{id_at, key_at, version_at}
use Rattle.json_text.specs.Transactions.{keyed_of, read_at}
use Rattle.json_text.specs.Unread.{◌>>=◌}

-- a digit of hexadecimal, in lower case
abbrev pub is_lower_digit : ℕ → Bool
is_lower_digit c = (nat_le 48 c && nat_le c 57) || (nat_le 97 c && nat_le c 102)

-- the bytes that a text spells in hexadecimal, two digits in lower case for each
unfoldable pub spelled_bytes : List ℕ → Option (List ℕ)
spelled_bytes text = if list_all is_lower_digit text then result_ok (decode_of text) else None

-- the stored value that a text spells in hexadecimal
unfoldable pub hex_value_at : Data → Option (List ℕ)
hex_value_at d = as_str d >>= spelled_bytes >>= value_of

-- the three items, where there is no fourth
abbrev pub item_triple : Items → Option (Data × Data × Data)
item_triple no_items = None
item_triple (item d no_items) = None
item_triple (item d (item e no_items)) = None
item_triple (item d (item e (item f no_items))) = Some (d, e, f)
item_triple (item d (item e (item f (item g ds)))) = None

-- the member of this name, where it spells an id
abbrev pub id_member : List ℕ → Data → Option TxnId
id_member name d = get name d >>= id_at

-- a write, [KEY,HEX,VERSION], with the version that is overwritten
unfoldable pub write_at : Data → Option WriteItem
write_at d = do
  triple ← as_array d >>= item_triple
  key ← key_at triple.0
  value ← hex_value_at triple.1
  over ← version_at triple.2
  Some (record { key = key; value = value; over = over })

-- {"prepare":ID,"reads":[[KEY,VERSION],..],"writes":[[KEY,HEX,VERSION],..]}, at most 16 of each, with distinct keys
unfoldable pub prepare_at : Data → Option Transaction
prepare_at d = do
  id ← id_member (codes "prepare") d
  reads ← array_member (codes "reads") d >>= keyed_of (λ r. r.key) read_at
  writes ← array_member (codes "writes") d >>= keyed_of (λ w. w.key) write_at
  Some (record { id = id; reads = reads; writes = writes })

-- a number that is a time, from 1 to the last
abbrev pub time_of : ℕ → Option ℕ
time_of n = if nat_le 1 n && nat_le n last_time then Some n else None

-- the member `time`, where it is one
abbrev pub time_at : Data → Option ℕ
time_at d = number_member (codes "time") d >>= time_of

-- {"commit":ID,"time":T}
unfoldable pub commit_at : Data → Option Record
commit_at d = do
  id ← id_member (codes "commit") d
  time ← time_at d
  Some (Commit id time)

-- {"abort":ID,"cause":ID,"time":T}
unfoldable pub abort_at : Data → Option Record
abort_at d = do
  id ← id_member (codes "abort") d
  cause ← id_member (codes "cause") d
  time ← time_at d
  Some (Abort id time cause)

-- the kind of record that is named alone among the three
abbrev pub named_record : Bool → Bool → Bool → Data → Option Record
named_record prepare commit abort d =
    if prepare then (if commit || abort then None else option_map Prepare (prepare_at d))
    else if commit then (if abort then None else commit_at d)
    else if abort then abort_at d
    else None

-- a record, which has exactly one of the names `prepare`, `commit` and `abort`
unfoldable pub record_at : Data → Option Record
record_at d = named_record (has_member (codes "prepare") d) (has_member (codes "commit") d) (has_member (codes "abort") d) d

-- a number that is a site's
abbrev pub site_of : ℕ → Option ℕ
site_of n = if nat_lt n most_sites then Some n else None

-- the member `site`, where it is one
abbrev pub site_at : Data → Option ℕ
site_at d = number_member (codes "site") d >>= site_of

-- {"records":[..],"site":S}: the records of a site's log
unfoldable pub dump_at : Data → Option (List Record)
dump_at d = do
  site ← site_at d
  records ← array_member (codes "records") d
  each_of record_at records
