-- What a write that failed may have done.
use Rattle.std.proofs.Common.{ℕ, ◌≤◌, Some, List, length, inl, refl}
use Rattle.disk_store.specs.Disk.{DiskState, MayHaveWritten, after_write}
use Rattle.disk_store.specs.Laws.Writes.{write_is_torn}

-- it was done
pub torn_write : (at : ℕ) (from : List ℕ) (old : DiskState) → at ≤ length old.bytes → MayHaveWritten at (length from) (Some old) (Some (after_write at from old))
torn_write at from old le = (after_write at from old, refl, write_is_torn at from old le)

-- it was not
pub torn_none : (at size : ℕ) (old : DiskState) → MayHaveWritten at size (Some old) (Some old)
torn_none at size old = (old, refl, record { synced = refl; written = inl refl; before = refl; behind = refl })
