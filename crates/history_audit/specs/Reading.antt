-- The history that a text says, or the first rule that the text breaks.
use Rattle.std.specs.Prelude.{ℕ, List, [], ◌∷◌, ◌++◌, length, Result, Ok}
use Rattle.serde_json.specs.Data.{Data, Items, no_items, item}
use Rattle.serde_json.specs.Find.{as_array}
use Rattle.json_text.specs.Reading.{◌>>=◌, required}
use Rattle.json_text.specs.Text.{json_of}
use Rattle.history_audit.specs.Items.{next_item}
use Rattle.history_audit.specs.declared.history.Item.{Item}
use Rattle.history_audit.specs.declared.refusal.HistoryRefusal.{HistoryRefusal}
use Rattle.history_audit.specs.declared.refusal.HistoryRefusal.TheVariants.{NotJson, BadShape, BadTransaction}

-- the earlier transactions with those of the items behind them, or the place of the first that is bad
abbrev pub items_behind : List Item → Items → Result (List Item) HistoryRefusal
items_behind earlier no_items = Ok earlier
items_behind earlier (item d ds) = required (BadTransaction (length earlier)) (next_item earlier d) >>= λ next. items_behind (earlier ++ next ∷ []) ds

-- what a JSON value says as a history
unfoldable pub history_at : Data → Result (List Item) HistoryRefusal
history_at d = required BadShape (as_array d) >>= items_behind []

-- what a text says as a history
unfoldable pub history_of_text : List ℕ → Result (List Item) HistoryRefusal
history_of_text bytes = required NotJson (json_of bytes) >>= history_at
