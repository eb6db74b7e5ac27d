use Rattle.std.proofs.Common.{◌≡◌, take}
use Rattle.helios_model.proofs.records.Records.copy.Given as goal

-- the records so far are copied
abbrev pub invariant-loop-r : goal.invariant-loop-r
invariant-loop-r l = l.items.items ≡ take l.r-index l.r-items
