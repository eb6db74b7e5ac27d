-- The bytes of a disk in memory, their room, and where anything was written since the last sync.
use Rattle.std.specs.Prelude.{◌≡◌, ◌⊎◌, ℕ, ◌<◌, ◌≤◌, min, max, false, true, length, slice_index_or, ◌==◌, if◌then◌else◌}
use Rattle.disk_store.specs.Disk.{DiskState, IsImage}
use Rattle.disk_store.specs.declared.window.Window.{Window}

-- a disk's contents, and the greatest length that it can have
pub record Stored : Type 0 where
  pub disk : DiskState
  pub room : ℕ

-- No place outside of the window is marked as written, and each place past those that were synced lies in it.
pub record IsWindow (disk : DiskState) (window : Window) : Type 0 where
  pub ordered : window.low ≤ window.high
  pub within : window.high ≤ length disk.bytes
  pub begun : window.low ≤ length disk.synced
  pub reached : length disk.bytes ≤ max (length disk.synced) window.high
  pub clean : (place : ℕ) → place < length disk.written → (place < window.low) ⊎ (window.high ≤ place) → slice_index_or disk.written place true ≡ false

-- the window with the places from one up to another; an empty one is replaced
abbrev pub widened : ℕ → ℕ → Window → Window
widened from to window = if window.low == window.high then record { low = from; high = to } else record { low = min window.low from; high = max window.high to }

-- what it reads is an image, each byte has its mark, what was written lies in the window, and each list has the memory for the room
pub record HasRoom (disk : DiskState) (window : Window) (room bytes_room synced_room written_room : ℕ) : Type 0 where
  pub image : IsImage disk disk.bytes
  pub marked : length disk.written ≡ length disk.bytes
  pub changed : IsWindow disk window
  pub fits : length disk.bytes ≤ room
  pub bytes_fit : room ≤ bytes_room
  pub synced_fit : room ≤ synced_room
  pub written_fit : room ≤ written_room
