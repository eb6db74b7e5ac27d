use Rattle.std.proofs.Common.{◌≡◌, drop}
use Rattle.serde_json.specs.View.{items_view}
use Rattle.json_text.specs.Lists.{list_of, items_from}
use Rattle.json_text.proofs.ListReading.{after}
use Rattle.json_text.proofs.lists.read_list.Given as goal

-- the items so far and those that are left are those of the whole array
abbrev pub invariant-loop-place : goal.invariant-loop-place
invariant-loop-place g l = after l.found.items (items_from (g.R.ItemReader.said l.reader) l.place (items_view (drop l.place l.items))) ≡ list_of l.most l.fn.too_many (g.R.ItemReader.said l.reader) (items_view l.items)
