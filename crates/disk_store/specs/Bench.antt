-- The disk that a bench lends.
use Rattle.std.specs.Prelude.{ℕ, List, slice_set}
use Rattle.std.specs.Borrow.{Lends, MutBor, Fml}
use Rattle.disk_store.specs.Memory.{MemState}
use Rattle.disk_store.specs.contracts.bench.Bench.{the_row}
use Rattle.disk_store.specs.contracts.memory.MemDisk as mem

-- the bench ends with this site's disk as it is left behind the result
abbrev pub LendsDisk : MutBor (List MemState) → ℕ → MutBor MemState → Fml
LendsDisk bench site disk = Lends the_row mem.the_row bench disk (slice_set bench.now site)
