-- Facts that follow from the definitions alone; each is the clause of a function of `laws`.
use Rattle.std.specs.Prelude.{◌≡◌, ◌⊎◌, ℕ, ◌<◌, ◌≤◌, nat_le, if◌then◌else◌, List, [], ◌∷◌, ◌++◌, length, Some, option_map, Result, IfSome, IsErrOf}
use Rattle.disk_store.specs.Disk.{DiskState, IsImage, EachImage}
use Rattle.disk_store.specs.Crash.{kept}
use Rattle.disk_store.specs.Memory.{MemState, outlook_of, keep_of}
use Rattle.disk_store.specs.declared.fate.Keep.{Keep}
use Rattle.disk_store.specs.declared.fate.Script.{Script}
use Rattle.node_journal.specs.Frames.{IsSmall, frames, HoldsFrame, IsReadTo, EndsAt, LeadsNowhere, StandsFor}
use Rattle.node_journal.specs.Appending.{IsReady, IsBeforeOrAfter, end_of, stopped_at, failed_state, is_kept}
use Rattle.node_journal.specs.Positions.{Position}
use Rattle.node_journal.specs.declared.fault.JournalFault.{JournalFault}
use Rattle.node_journal.specs.declared.fault.JournalFault.TheVariants.{DiskFailed}

-- an image stands for at most one list
abbrev pub OneList : Type 0
OneList = (image : List ℕ) (payloads others : List (List ℕ)) → StandsFor image payloads → StandsFor image others → payloads ≡ others

-- an image of more than one byte whose open gate leads nowhere stands for no list
abbrev pub NoList : Type 0
NoList = (image : List ℕ) (gate : ℕ) (payloads others : List (List ℕ)) → 1 < length image → IsReadTo image gate payloads
    → LeadsNowhere image gate → StandsFor image others → ⊥

-- the payload of a frame that stands behind the first payloads of a list comes next in it
abbrev pub NextOfList : Type 0
NextOfList = (image : List ℕ) (gate : ℕ) (payloads others : List (List ℕ)) (payload : List ℕ) → IsReadTo image gate payloads → HoldsFrame image gate payload
    → StandsFor image others → (rest : List (List ℕ)) × (others ≡ payloads ++ payload ∷ rest)

-- a gate has at most one frame behind it
abbrev pub OneFrame : Type 0
OneFrame = (image : List ℕ) (gate : ℕ) (payload other : List ℕ) → HoldsFrame image gate payload → HoldsFrame image gate other → payload ≡ other

-- a gate that leads nowhere has no frame behind it
abbrev pub NoFrame : Type 0
NoFrame = (image : List ℕ) (gate : ℕ) (payload : List ℕ) → LeadsNowhere image gate → HoldsFrame image gate payload → ⊥

-- the frame at the gate of a reading comes next in these payloads
pub record GoesOn (image : List ℕ) (gate : ℕ) (payloads others : List (List ℕ)) : Type 0 where
  pub payload : List ℕ
  pub rest : List (List ℕ)
  pub frame : HoldsFrame image gate payload
  pub goes_on : others ≡ payloads ++ payload ∷ rest

-- two readings of an image came to the same gate by the same payloads, or the one goes on where the other stands
abbrev pub OneReading : Type 0
OneReading = (image : List ℕ) (gate other : ℕ) (payloads others : List (List ℕ)) → IsReadTo image gate payloads → IsReadTo image other others
    → ((gate ≡ other) × (payloads ≡ others)) ⊎ GoesOn image gate payloads others ⊎ GoesOn image other others payloads

-- the gate behind a list stands where the list's frames end
abbrev pub OneGate : Type 0
OneGate = (image : List ℕ) (gate : ℕ) (payloads : List (List ℕ)) → EndsAt image gate payloads → gate ≡ length (frames payloads)

-- After an `append` that failed a disk that reads as one of its images stands for one of the two lists. A sync that
-- is done then settles which.
abbrev pub Settled : Type 0
Settled = (disk : DiskState) (payloads : List (List ℕ)) (payload : List ℕ) → EachImage disk (IsBeforeOrAfter payloads payload) → IsImage disk disk.bytes
    → StandsFor disk.bytes payloads ⊎ StandsFor disk.bytes (payloads ++ payload ∷ [])

-- what a crash leaves of a disk that one of the four calls of an `append` left
abbrev pub StoppedAppend : Type 0
StoppedAppend = (call gate : ℕ) (keep : Keep) (payload : List ℕ) (payloads : List (List ℕ)) (disk : DiskState)
    → 1 ≤ call → call ≤ 4 → IsReady disk gate → IsReadTo disk.bytes gate payloads → IsSmall payload
    → StandsFor (kept keep (stopped_at call gate payload disk)) (if is_kept call keep then payloads ++ payload ∷ [] else payloads)

-- The same of a disk in memory with a script, from the clauses `failed` and `keeps` of the `append` that failed.
abbrev pub StoppedDisk : Type 0
StoppedDisk = (old new : MemState) (script : Script) (gate : ℕ) (payload : List ℕ) (payloads : List (List ℕ)) (result : Result Position JournalFault)
    → old.fate.fails ≡ [] → old.fate.script ≡ Some script → 1 ≤ script.left → script.left ≤ 4 → end_of gate payload ≤ old.room
    → IsReady old.disk gate → IsReadTo old.disk.bytes gate payloads → IsSmall payload → IsErrOf result DiskFailed
    → IfSome (outlook_of old.fate.fails old.room old.fate.script) (λ o. IsErrOf result DiskFailed → Some new.disk ≡
    (if nat_le (end_of gate payload) o.room then option_map (failed_state o.failing gate payload) (Some old.disk) else Some old.disk))
    → Some (keep_of new.fate.script) ≡ Some (keep_of old.fate.script)
    → StandsFor (kept (keep_of new.fate.script) new.disk) (if is_kept script.left script.keep then payloads ++ payload ∷ [] else payloads)
