-- What a disk was at each moment of a call, or of a run of calls.
use Rattle.std.specs.Prelude.{◌≡◌, ◌⊎◌, List, [], ◌∷◌, ◌++◌, length, drop, Option, Some, None, IfSome}
use Rattle.std.specs.List.{All}
use Rattle.disk_store.specs.Disk.{DiskState}

-- the past with one state more, where both are told
abbrev pub pushed : Option (List DiskState) → Option DiskState → Option (List DiskState)
pushed (Some past) (Some disk) = Some (past ++ disk ∷ [])
pushed past disk = past

-- One call was made: the state before it joined the past, or nothing changed.
-- While a call lasts, a crash leaves an image of the state before it or of the state after it.
abbrev pub Elapses : Option (List DiskState) → Option (List DiskState) → Option DiskState → Option DiskState → Type 0
Elapses past past' disk disk' = (past' ≡ pushed past disk) ⊎ ((past' ≡ past) × (disk' ≡ disk))

-- the states since the past was the first: of a disk that tells no past, the state at the end alone
abbrev pub states_since : Option (List DiskState) → Option (List DiskState) → DiskState → List DiskState
states_since (Some before) (Some past) now = drop (length before) past ++ now ∷ []
states_since before past now = now ∷ []

-- the past goes on from what it was, and is told as before
abbrev pub GoesOn : Option (List DiskState) → Option (List DiskState) → Type 0
GoesOn None past = past ≡ None
GoesOn (Some before) past = (later : List DiskState) × (past ≡ Some (before ++ later))

-- Each state since has P: at every moment of the calls where the past is told, else at their end.
pub record AtEachMoment (before past : Option (List DiskState)) (now : Option DiskState) (P : DiskState → Type 0) : Type 0 where
  pub goes_on : GoesOn before past
  pub each : IfSome now (λ disk. All P (states_since before past disk))
