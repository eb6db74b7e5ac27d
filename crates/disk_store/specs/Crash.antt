-- Which image the memory forms leave after a crash.
use Rattle.std.specs.Prelude.{ℕ, Bool, List, [], ◌∷◌, if◌then◌else◌}
use Rattle.disk_store.specs.Disk.{DiskState}
use Rattle.disk_store.specs.declared.fate.Keep.{Keep}
use Rattle.disk_store.specs.declared.fate.Keep.TheVariants.{All, Nothing, Byte}

-- the bytes, with this one at each place that was written
abbrev pub fill_written : ℕ → List Bool → List ℕ → List ℕ
fill_written byte [] bytes = bytes
fill_written byte (written ∷ marks) [] = []
fill_written byte (written ∷ marks) (old ∷ bytes) = (if written then byte else old) ∷ fill_written byte marks bytes

-- what a crash leaves: the disk as it reads, as at its last sync, or with this byte at each unsynced place
abbrev pub kept : Keep → DiskState → List ℕ
kept All disk = disk.bytes
kept Nothing disk = disk.synced
kept (Byte byte) disk = fill_written byte disk.written disk.bytes
