-- What stands at a gate and behind it.
use Rattle.std.specs.Prelude.{◌≡◌, ◌≢◌, ℕ, ◌+◌, ◌<◌, ◌≤◌, List, ◌∷◌, length, take, drop, slice_index}
use Rattle.node_journal.specs.Frames.{length_bytes, length_at}
use Rattle.node_journal.specs.declared.gate.Gate.{Gate}
use Rattle.node_journal.specs.declared.gate.Gate.TheVariants.{Closed, Cut, Length}

-- an open gate with a whole length behind it
pub record HasLength (bytes : List ℕ) (gate size : ℕ) : Type 0 where
  pub within : gate + 5 ≤ length bytes
  pub spelled : take 5 (drop gate bytes) ≡ 1 ∷ length_bytes size
  pub size_is : size ≡ length_at bytes gate

-- the gate is not open, or is open and the bytes end before a whole length, or has a length behind it
abbrev pub GateIs : List ℕ → ℕ → Gate → Type 0
GateIs bytes gate Closed = slice_index bytes gate ≢ 1
GateIs bytes gate Cut = (slice_index bytes gate ≡ 1) × (length bytes < gate + 5)
GateIs bytes gate (Length size) = HasLength bytes gate size
