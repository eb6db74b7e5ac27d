use Rattle.std.proofs.Common.{◌≡◌, ◌+◌, All, length}
use Rattle.log_records.specs.Entries.{MayBeWritten}
use Rattle.host_tests.proofs.batches.pulls.Given as goal

abbrev pub invariant-loop : goal.invariant-loop
invariant-loop l = record {
  count : length l.entries.items ≡ 1 + l.counter;
  written : All MayBeWritten l.entries.items;
}
