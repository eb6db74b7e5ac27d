use Rattle.std.proofs.Common.{◌≡◌, ◌^◌, ◌<◌, ◌++◌, All, take}
use Rattle.std.specs.List.{flat_map}
use Rattle.helios_model.specs.World.{journaled}
use Rattle.log_records.specs.Entries.{entry_bytes}
use Rattle.log_records.proofs.entries.put_kept.Given as goal

-- behind what the buffer had stand those of the entries so far that are kept, each with the reading of a clock
abbrev pub invariant-loop-e : goal.invariant-loop-e
invariant-loop-e l = record {
  written : l.out.items ≡ l.fn.out.items ++ flat_map entry_bytes (journaled (take l.e-index l.entries));
  readings : All (λ e. e.reading < 2 ^ 64) (journaled (take l.e-index l.entries));
}
