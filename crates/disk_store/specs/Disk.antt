-- What a disk holds, and what a crash may leave of it.
use Rattle.std.specs.Prelude.{◌≡◌, ◌⊎◌, ℕ, ◌+◌, ◌-◌, ◌<◌, ◌≤◌, min, max, Bool, true, false, List, ◌++◌, length, take, drop, replicate, slice_index, slice_index_or, Option, Some, None}

-- a disk at one moment
pub record DiskState : Type 0 where
  -- what a read gives
  pub bytes : List ℕ
  -- the bytes as at the last sync that succeeded
  pub synced : List ℕ
  -- for each place up to the greatest end written: was it written since that sync?
  pub written : List Bool

-- A crash may leave this image: what was not written since the last sync stays, anything else is any byte.
pub record IsImage (disk : DiskState) (image : List ℕ) : Type 0 where
  pub no_shorter : length disk.synced ≤ length image
  pub no_longer : length image ≤ length disk.written
  pub unwritten : (place : ℕ) → place < length disk.synced → slice_index_or disk.written place true ≡ false → slice_index image place ≡ slice_index disk.synced place

-- each image that a crash may leave has P
abbrev pub EachImage : DiskState → (List ℕ → Type 0) → Type 0
EachImage disk P = (image : List ℕ) → IsImage disk image → P image

-- a disk with these bytes, all of them synced: a crash leaves them and nothing else
abbrev pub at_rest : List ℕ → DiskState
at_rest bytes = record { bytes = bytes; synced = bytes; written = replicate (length bytes) false }

-- nothing is pending
abbrev pub IsAtRest : DiskState → Type 0
IsAtRest disk = disk ≡ at_rest disk.bytes

-- these items in place of those from `at` on, and past the end
abbrev pub over : {X : Type 0} → ℕ → List X → List X → List X
over at ys xs = take at xs ++ ys ++ drop (at + length ys) xs

-- the disk after these bytes were written at that place
abbrev pub after_write : ℕ → List ℕ → DiskState → DiskState
after_write at from disk = record { bytes = over at from disk.bytes; synced = disk.synced; written = over at (replicate (length from) true) disk.written }

-- the disk after a sync that succeeded
abbrev pub after_sync : DiskState → DiskState
after_sync disk = at_rest disk.bytes

-- A write of `size` bytes failed: each byte of its range is as it may be, and the others stay.
pub record TornWrite (at size : ℕ) (old new : DiskState) : Type 0 where
  pub synced : new.synced ≡ old.synced
  pub written : (new.written ≡ old.written) ⊎ (new.written ≡ over at (replicate size true) old.written)
  pub before : take at new.bytes ≡ take at old.bytes
  pub behind : drop (at + size) new.bytes ≡ drop (at + size) old.bytes

-- an image of a disk at rest of which a range of `size` bytes is being written
pub record TornFrom (at size : ℕ) (bytes image : List ℕ) : Type 0 where
  pub no_shorter : length bytes ≤ length image
  pub no_longer : length image ≤ max (length bytes) (at + size)
  pub before : take at image ≡ take at bytes
  pub behind : (place : ℕ) → at + size ≤ place → place < length bytes → slice_index image place ≡ slice_index bytes place

-- the same as a torn write, of a disk that may tell its contents or not
abbrev pub MayHaveWritten : ℕ → ℕ → Option DiskState → Option DiskState → Type 0
MayHaveWritten at size None new = new ≡ None
MayHaveWritten at size (Some old) new = (disk : DiskState) × (new ≡ Some disk) × TornWrite at size old disk

-- a read at a place gave so many bytes into this buffer: those up to the end, or to the buffer's length
pub record GivesBytes (bytes : List ℕ) (at : ℕ) (into : List ℕ) (count : ℕ) : Type 0 where
  pub counted : count ≡ min (length into) (length bytes - at)
  pub given : take count into ≡ take count (drop at bytes)
