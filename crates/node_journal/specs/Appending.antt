-- What one `append` does to a disk.
use Rattle.std.specs.Prelude.{◌≡◌, ◌≢◌, ◌⊎◌, ℕ, ◌+◌, ◌<◌, Bool, true, false, ◌&&◌, ◌==◌, nat_le, nat_lt, if◌then◌else◌, List, [], ◌∷◌, ◌++◌, length, slice_index}
use Rattle.disk_store.specs.Disk.{DiskState, IsAtRest, TornWrite, over, after_write, after_sync}
use Rattle.disk_store.specs.Outlook.{Outlook, Failing, never, at_call, already, outlook_next}
use Rattle.disk_store.specs.declared.fate.Keep.{Keep}
use Rattle.disk_store.specs.declared.fate.Keep.TheVariants.{All, Nothing, Byte}
use Rattle.node_journal.specs.Frames.{StandsFor, frame_of}

-- nothing is pending, and the gate stands on the disk and is not open
pub record IsReady (disk : DiskState) (gate : ℕ) : Type 0 where
  pub at_rest : IsAtRest disk
  pub within : gate < length disk.bytes
  pub closed : slice_index disk.bytes gate ≢ 1

-- the image stands for these payloads, or for them and one more
abbrev pub IsBeforeOrAfter : List (List ℕ) → List ℕ → List ℕ → Type 0
IsBeforeOrAfter payloads payload image = StandsFor image payloads ⊎ StandsFor image (payloads ++ payload ∷ [])

-- the bytes with this payload behind the gate, the gate opened, and the next one closed
abbrev pub sealed : ℕ → List ℕ → List ℕ → List ℕ
sealed gate payload bytes = over gate (1 ∷ frame_of payload) bytes

-- where the next gate ends
abbrev pub end_of : ℕ → List ℕ → ℕ
end_of gate payload = gate + 6 + length payload

-- the disk whose frame was written
abbrev pub framed : ℕ → List ℕ → DiskState → DiskState
framed gate payload disk = after_write (gate + 1) (frame_of payload) disk

-- The disk as one of the four calls left it that was done and answered that it failed: write of the frame, sync,
-- write of the gate, sync. A sync that fails counts as none.
abbrev pub stopped_at : ℕ → ℕ → List ℕ → DiskState → DiskState
stopped_at call gate payload disk =
    if nat_le call 2 then framed gate payload disk else after_write gate (1 ∷ []) (after_sync (framed gate payload disk))

-- no one of so many calls is to fail
abbrev pub lasts : ℕ → Failing → Bool
lasts calls never = true
lasts calls (at_call number) = nat_lt calls number
lasts calls already = false

-- the disk after an `append` that failed
abbrev pub failed_state : Failing → ℕ → List ℕ → DiskState → DiskState
failed_state never gate payload disk = disk
failed_state (at_call number) gate payload disk = stopped_at number gate payload disk
failed_state already gate payload disk = disk

-- a crash after a stop at this call with this keep leaves the gate open
abbrev pub is_kept : ℕ → Keep → Bool
is_kept call All = nat_le 3 call
is_kept call Nothing = false
is_kept call (Byte byte) = nat_le 3 call && (byte == 1)

-- a disk while these bytes are written and synced: as before, with the write begun, or with the bytes durable
abbrev pub WhileWriting : ℕ → List ℕ → DiskState → DiskState → Type 0
WhileWriting at bytes old disk = (disk ≡ old) ⊎ TornWrite at (length bytes) old disk ⊎ (disk ≡ after_sync (after_write at bytes old))

-- The outlook after bytes that end at this place were to be written, and a call failed: where they fit, that call
-- is past, else it was the write that found no room.
abbrev pub spent : ℕ → Outlook → Outlook
spent end outlook = if nat_le end outlook.room then record { room = outlook.room; failing = already } else outlook_next outlook

-- the outlook once four calls were made
abbrev pub four_calls_later : Outlook → Outlook
four_calls_later outlook = outlook_next (outlook_next (outlook_next (outlook_next outlook)))
