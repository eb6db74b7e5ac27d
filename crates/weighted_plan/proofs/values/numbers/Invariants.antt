use Rattle.std.proofs.Common.{◌≡◌, map, take}
use Rattle.serde_json.specs.View.{view}
use Rattle.weighted_plan.specs.Printing.{whole}
use Rattle.weighted_plan.proofs.values.numbers.Given as goal

abbrev pub invariant-loop-number : goal.invariant-loop-number
invariant-loop-number l = map view l.items.items ≡ map whole (take l.number-index l.numbers)
