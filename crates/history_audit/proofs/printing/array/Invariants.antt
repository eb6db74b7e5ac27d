use Rattle.std.proofs.Common.{◌≡◌, map, take}
use Rattle.std.specs.Prelude.{All}
use Rattle.serde_json.specs.View.{view}
use Rattle.history_audit.proofs.printing.array.Given as goal

abbrev pub invariant-loop-item : goal.invariant-loop-item
invariant-loop-item g l = record {
  said : map view l.values.items ≡ map g.P.ItemPrinter.said (take l.item-index l.items);
  kept : All g.P.ItemPrinter.keeps (take l.item-index l.items);
}
