-- Members of an object, and arrays of few items.
use Rattle.std.specs.Prelude.{ℕ, Bool, false, List, Option, Some, None, is_some, option_and_then}
use Rattle.std.specs.Str.{bytes_eq}
use Rattle.serde_json.specs.Data.{Data, Items, no_items, item}
use Rattle.serde_json.specs.Find.{as_array, as_str, get}
use Rattle.json_text.specs.Arrays.{whole_number}

-- whether there is a member of this name
abbrev pub has_member : List ℕ → Data → Bool
has_member name d = is_some (get name d)

-- the items of a member that is an array
abbrev pub array_member : List ℕ → Data → Option Items
array_member name d = option_and_then as_array (get name d)

-- a member that is a whole number
abbrev pub number_member : List ℕ → Data → Option ℕ
number_member name d = option_and_then whole_number (get name d)

-- a member that is a text
abbrev pub text_member : List ℕ → Data → Option (List ℕ)
text_member name d = option_and_then as_str (get name d)

-- whether what was found is this text
abbrev pub is_same_text : List ℕ → Option (List ℕ) → Bool
is_same_text text None = false
is_same_text text (Some found) = bytes_eq found text

-- whether a value is this text
abbrev pub is_text : List ℕ → Data → Bool
is_text text d = is_same_text text (as_str d)

-- the item, where there is no other
abbrev pub lone_item : Items → Option Data
lone_item no_items = None
lone_item (item d no_items) = Some d
lone_item (item d (item e ds)) = None

-- the only item of an array
abbrev pub only_at : Data → Option Data
only_at d = option_and_then lone_item (as_array d)

-- the two items, where there is no third
abbrev pub item_pair : Items → Option (Data × Data)
item_pair no_items = None
item_pair (item d no_items) = None
item_pair (item d (item e no_items)) = Some (d, e)
item_pair (item d (item e (item f ds))) = None

-- the two items of an array
abbrev pub pair_at : Data → Option (Data × Data)
pair_at d = option_and_then item_pair (as_array d)
