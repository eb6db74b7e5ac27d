use Rattle.std.proofs.Common.{◌-◌, length}
use Rattle.helios_model.specs.Limits.{most_records}
use Rattle.time_table.specs.Table.{time_at}
use Rattle.log_exchange.specs.Heads.{IsTaken}
use Rattle.log_exchange.proofs.selection.take_due.Given as goal

abbrev pub invariant-loop-head : goal.invariant-loop-head
invariant-loop-head l = IsTaken l.backlog (time_at l.t l.to) l.records.items l.heads.items

abbrev pub decreases-loop-head : goal.decreases-loop-head
decreases-loop-head l = most_records - length l.records.items
