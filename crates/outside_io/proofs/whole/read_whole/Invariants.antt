use Rattle.std.proofs.Common.{◌≡◌, ◌≤◌, ◌-◌, vec_len}
use Rattle.std.specs.Io.KnownBytes.{Consumes}
use Rattle.outside_io.specs.Causes.{IsCount, StaysTold}
use Rattle.outside_io.proofs.whole.read_whole.Given as goal

abbrev pub invariant-loop-buffer : goal.invariant-loop-buffer
invariant-loop-buffer g l = record {
  taken : Consumes (g.S.Source.seen l.initial.source).left (g.S.Source.seen l.source).left l.bytes.items;
  tells : StaysTold (g.S.Source.seen l.initial.source).left (g.S.Source.seen l.source).left;
  fits : vec_len l.bytes ≤ l.limit;
  steady : (g.S.Source.seen l.source).faults ≡ (g.S.Source.seen l.initial.source).faults;
  count : IsCount (g.S.Source.seen l.initial.source).faults → IsCount (g.S.Source.seen l.source).faults;
  room : vec_len l.buffer ≡ vec_len l.initial.buffer;
}

abbrev pub decreases-loop-buffer : goal.decreases-loop-buffer
decreases-loop-buffer g l = l.limit - vec_len l.bytes
