-- The text of a history.
use Rattle.std.specs.Prelude.{◌≤◌, ℕ, List, [], ◌∷◌, ◌++◌, map, codes}
use Rattle.serde_json.specs.Data.{Data, string, array, object, no_items, item, no_members, member}
use Rattle.serde_json.specs.View.{items_of}
use Rattle.serde_json.specs.Written.{compact_text}
use Rattle.helios_model.specs.Ids.{id_text, version_text}
use Rattle.helios_model.specs.Limits.{last_time}
use Rattle.helios_model.specs.declared.ids.TxnId.{TxnId}
use Rattle.helios_model.specs.declared.records.CommitEvent.{CommitEvent}
use Rattle.helios_model.specs.declared.transactions.ReadItem.{ReadItem}
use Rattle.history_audit.specs.declared.history.Item.{Item}

-- an array, each item as f gives it
abbrev pub array_data : {X : Type 0} → (X → Data) → List X → Data
array_data f xs = array (items_of (map f xs))

abbrev pub id_data : TxnId → Data
id_data id = string (id_text id)

-- [KEY,VERSION]
abbrev pub read_data : ReadItem → Data
read_data r = array (item (string r.key) (item (string (version_text r.version)) no_items))

-- the members in the order of their names
unfoldable pub item_members : Data → Data → Data → Data
item_members id reads writes = object (member (codes "id") id (member (codes "reads") reads (member (codes "writes") writes no_members)))

abbrev pub item_data : Item → Data
item_data x = item_members (id_data x.id) (array_data read_data x.reads) (array_data string x.writes)

-- a committed transaction as a history names it
abbrev pub item_of : CommitEvent → Item
item_of e = record { id = e.prepare.id; reads = e.prepare.reads; writes = map (λ w. w.key) e.prepare.writes }

abbrev pub history_data : List CommitEvent → Data
history_data events = array_data (λ e. item_data (item_of e)) events

-- the text without blanks, and a line feed
abbrev pub history_text : List CommitEvent → List ℕ
history_text events = compact_text (history_data events) ++ 10 ∷ []

-- a commit whose id has a time that a text can spell
abbrev pub IsDated : CommitEvent → Type 0
IsDated e = (1 ≤ e.prepare.id.time) × (e.prepare.id.time ≤ last_time)
