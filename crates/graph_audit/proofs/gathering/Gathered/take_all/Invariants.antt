use Rattle.std.proofs.Common.{List, ◌++◌}
use Rattle.helios_model.specs.declared.records.Record.{Record}
use Rattle.graph_audit.specs.Gathered.{IsGathered}
use Rattle.graph_audit.proofs.gathering.Gathered.take_all.Given as goal

abbrev pub invariant-loop-next : goal.invariant-loop-next
invariant-loop-next l = (before : List Record) → IsGathered l.initial.self before → IsGathered l.self (before ++ l.yielded)
