-- What a reading finds at its gate.
use Rattle.std.specs.Prelude.{◌≡◌, ◌≢◌, ℕ, ◌+◌, ◌^◌, ◌<◌, List, [], ◌∷◌, ◌++◌, length, slice_index, Result, Ok, Err}
use Rattle.node_journal.specs.Frames.{HoldsFrame, LeadsNowhere, IsReadTo, EndsAt}
use Rattle.node_journal.specs.Appending.{IsReady}
use Rattle.disk_store.specs.Disk.{DiskState, IsAtRest}
use Rattle.node_journal.specs.Positions.{Position}
use Rattle.node_journal.specs.declared.reading.Found.{Found}
use Rattle.node_journal.specs.declared.reading.Found.TheVariants.{Frame, Last}
use Rattle.node_journal.specs.declared.fault.JournalFault.{JournalFault}
use Rattle.node_journal.specs.declared.fault.JournalFault.TheVariants.{DiskFailed, Damaged, JournalFull, NoMemory}

-- The frame behind the gate, or the end where the gate is not open; damage where an open gate leads nowhere.
abbrev pub Finds : List ℕ → Position → Result Found JournalFault → Type 0
Finds bytes here (Ok (Frame reading place payload)) =
    (place ≡ here.gate) × (reading ≡ record { gate = here.gate + 5 + length payload; limit = here.limit }) × HoldsFrame bytes here.gate payload
Finds bytes here (Ok (Last journal)) = (journal ≡ here) × (slice_index bytes here.gate ≢ 1)
Finds bytes here (Err (Damaged place)) = (place ≡ here.gate) × LeadsNowhere bytes here.gate
Finds bytes here (Err JournalFull) = ⊥
Finds bytes here (Err DiskFailed) = Unit {0}
Finds bytes here (Err NoMemory) = Unit {0}

-- these payloads were read before; with the frame's payload they have been read now, and at the end they are all
abbrev pub ReadsOn : List ℕ → List (List ℕ) → Result Found JournalFault → Type 0
ReadsOn bytes payloads (Ok (Frame reading place payload)) = IsReadTo bytes reading.gate (payloads ++ payload ∷ [])
ReadsOn bytes payloads (Ok (Last journal)) = EndsAt bytes journal.gate payloads
ReadsOn bytes payloads (Err fault) = Unit {0}

-- the disk is as the next call asks: the gate stands on it, and at the end nothing is pending where nothing was
abbrev pub LeavesReady : Found → DiskState → Type 0
LeavesReady (Frame reading place payload) disk = reading.gate < length disk.bytes
LeavesReady (Last journal) disk = IsAtRest disk → IsReady disk journal.gate

-- a frame leads to the gate behind it, which stands at a place of 64 bits; the end stays where it is
abbrev pub Advances : Position → Found → Type 0
Advances here (Frame reading place payload) =
    (place ≡ here.gate) × (reading ≡ record { gate = here.gate + 5 + length payload; limit = here.limit }) × (reading.gate < 2 ^ 64)
Advances here (Last journal) = journal ≡ here
