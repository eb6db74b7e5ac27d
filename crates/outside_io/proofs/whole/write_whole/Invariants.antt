use Rattle.std.proofs.Common.{◌≡◌, [], length}
use Rattle.outside_io.specs.Causes.{IsCount, StaysTold}
use Rattle.outside_io.specs.Whole.{HasWritten}
use Rattle.outside_io.proofs.whole.write_whole.Given as goal

abbrev pub invariant-loop-rest : goal.invariant-loop-rest
invariant-loop-rest g l = record {
  so_far : HasWritten (g.K.Sink.seen l.initial.sink).taken (g.K.Sink.seen l.sink).taken l.text l.rest;
  tells : StaysTold (g.K.Sink.seen l.initial.sink).taken (g.K.Sink.seen l.sink).taken;
  steady : (g.K.Sink.seen l.sink).faults ≡ (g.K.Sink.seen l.initial.sink).faults;
  count : IsCount (g.K.Sink.seen l.initial.sink).faults → IsCount (g.K.Sink.seen l.sink).faults;
  empty : l.text ≡ [] → (l.sink ≡ l.initial.sink) × (l.rest ≡ []);
}

abbrev pub decreases-loop-rest : goal.decreases-loop-rest
decreases-loop-rest g l = length l.rest
