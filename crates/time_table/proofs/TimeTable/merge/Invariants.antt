use Rattle.time_table.proofs.Merging.{IsMergedUpTo}
use Rattle.time_table.proofs.TimeTable.merge.Given as goal

abbrev pub invariant-loop-place : goal.invariant-loop-place
invariant-loop-place l = IsMergedUpTo l.initial.self l.self l.own l.table l.cover l.place
