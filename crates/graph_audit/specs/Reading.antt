-- What a text says as the dumps of one or more sites, or the first rule that the text breaks.
use Rattle.std.specs.Prelude.{ℕ, ◌==◌, not, List, Result}
use Rattle.std.specs.List.{flat_map}
use Rattle.serde_json.specs.Data.{Data, Items}
use Rattle.serde_json.specs.Events.{items_len}
use Rattle.serde_json.specs.Find.{as_array}
use Rattle.helios_model.specs.Transactions.{Transaction}
use Rattle.helios_model.specs.declared.records.Record.{Record}
use Rattle.json_text.specs.Lists.{list_of}
use Rattle.json_text.specs.Reading.{◌>>=◌, demand, required}
use Rattle.json_text.specs.Text.{json_of}
use Rattle.graph_audit.specs.Committed.{committed_of}
use Rattle.graph_audit.specs.Records.{dump_at}
use Rattle.graph_audit.specs.declared.refusal.DumpsRefusal.{DumpsRefusal}
use Rattle.graph_audit.specs.declared.refusal.DumpsRefusal.TheVariants.{NotJson, BadShape, BadDump}

-- the most dumps that a text has
abbrev pub most_dumps : ℕ
most_dumps = 32

-- the records that the item at a place says
abbrev pub dump_read : ℕ → Data → Result (List Record) DumpsRefusal
dump_read place d = required (BadDump place) (dump_at d)

-- the records of each of 1 to 32 dumps
unfoldable pub logs_of : Items → Result (List (List Record)) DumpsRefusal
logs_of items = demand BadShape (not (items_len items == 0)) >>= λ some. list_of most_dumps BadShape dump_read items

-- what a JSON value says as dumps
unfoldable pub dumps_at : Data → Result (List Transaction) DumpsRefusal
dumps_at d = required BadShape (as_array d) >>= logs_of >>= λ logs. committed_of (flat_map (λ log. log) logs)

-- what a text says as dumps: the Prepares of the committed ids, in order of id
unfoldable pub dumps_of_text : List ℕ → Result (List Transaction) DumpsRefusal
dumps_of_text bytes = required NotJson (json_of bytes) >>= dumps_at
