use Rattle.std.specs.List.{flat_map}
use Rattle.graph_audit.specs.Gathered.{IsGathered}
use Rattle.graph_audit.proofs.gathering.gather_all.Given as goal

abbrev pub invariant-loop-log : goal.invariant-loop-log
invariant-loop-log l = IsGathered l.found (flat_map (λ log. log) l.yielded)
