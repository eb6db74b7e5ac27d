use Rattle.std.proofs.Common.{◌≡◌, [], drop, length}
use Rattle.helios_model.specs.declared.ids.TxnId.{TxnId}
use Rattle.serde_json.specs.View.{items_view}
use Rattle.history_audit.specs.Items.{is_among, is_given}
use Rattle.history_audit.specs.Reading.{items_behind}
use Rattle.history_audit.proofs.reading.read_items.Given as goal

-- the values that are left, behind the transactions so far, say what all values say
abbrev pub invariant-loop-place : goal.invariant-loop-place
invariant-loop-place l = record {
  counted : length l.found.items ≡ l.place;
  read : items_behind l.found.items (items_view (drop l.place l.items)) ≡ items_behind [] (items_view l.items);
  given : (id : TxnId) → is_among l.given.keys id ≡ is_given id l.found.items;
}
