use Rattle.std.proofs.Common.{◌≡◌, take}
use Rattle.disk_store.specs.Crash.{fill_written}
use Rattle.disk_store.proofs.places.fill.Given as goal

abbrev pub invariant-loop-place : goal.invariant-loop-place
invariant-loop-place l = l.bytes ≡ fill_written l.byte (take l.place l.written) l.initial.bytes
