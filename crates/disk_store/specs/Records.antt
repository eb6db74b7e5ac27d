-- A disk that keeps a record of its writes and syncs, and so tells all that it was.
use Rattle.std.specs.Prelude.{◌≡◌, ℕ, ◌+◌, ◌≤◌, List, [], ◌∷◌, length, take, drop}
use Rattle.disk_store.specs.Disk.{DiskState, IsImage, after_write, after_sync}
use Rattle.disk_store.specs.declared.history.Step.{Step}
use Rattle.disk_store.specs.declared.history.Step.TheVariants.{Write, Sync}

-- the disk after these steps; the bytes that they write stand one after the other
abbrev pub disk_after : DiskState → List Step → List ℕ → DiskState
disk_after disk [] bytes = disk
disk_after disk (Write at size ∷ steps) bytes = disk_after (after_write at (take size bytes) disk) steps (drop size bytes)
disk_after disk (Sync ∷ steps) bytes = disk_after (after_sync disk) steps bytes

-- the disk before each of the steps
abbrev pub disks_before : DiskState → List Step → List ℕ → List DiskState
disks_before disk [] bytes = []
disks_before disk (Write at size ∷ steps) bytes = disk ∷ disks_before (after_write at (take size bytes) disk) steps (drop size bytes)
disks_before disk (Sync ∷ steps) bytes = disk ∷ disks_before (after_sync disk) steps bytes

-- how many bytes the steps write
abbrev pub bytes_written : List Step → ℕ
bytes_written [] = 0
bytes_written (Write at size ∷ steps) = size + bytes_written steps
bytes_written (Sync ∷ steps) = bytes_written steps

-- what was, what is, and how many writes and syncs, and bytes in them, may come
pub record Recorded : Type 0 where
  pub past : List DiskState
  pub disk : DiskState
  pub calls : ℕ
  pub more : ℕ

-- what contracts see of a `RecordDisk`
pub record RecordState : Type 0 where
  pub past : List DiskState
  pub disk : DiskState
  pub calls : ℕ
  pub more : ℕ
  pub faults : ℕ

-- it reads as these bytes, and what it reads is an image
pub record ReadsAs (disk : DiskState) (bytes : List ℕ) : Type 0 where
  pub reads : disk.bytes ≡ bytes
  pub marked : length disk.written ≡ length bytes
  pub image : IsImage disk bytes

-- the record is whole, the disk that it comes to reads as the bytes kept, and there is memory for what may come
pub record IsRecord (disk : DiskState) (steps : List Step) (pool bytes : List ℕ) (calls more steps_room pool_room bytes_room : ℕ) : Type 0 where
  pub whole : length pool ≡ bytes_written steps
  pub now : ReadsAs disk bytes
  pub steps_fit : length steps + calls ≤ steps_room
  pub pool_fit : length pool + more ≤ pool_room
  pub bytes_fit : length bytes + more ≤ bytes_room
