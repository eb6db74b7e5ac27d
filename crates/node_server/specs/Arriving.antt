-- What comes next on a connection whose bytes are read in pieces, whatever the pieces are.
use Rattle.std.specs.Prelude.{◌≡◌, ◌≢◌, ℕ, Bool, true, false, List, [], ◌∷◌, ◌++◌}
use Rattle.link_codec.specs.Frames.{IsBadFrame, IsCutFrame, IsSpellableFrame, frame_bytes}
use Rattle.outside_io.specs.Causes.{Rose}
use Rattle.outside_io.specs.Net.{Talks}
use Rattle.outside_io.specs.Seen.{NetSeen}
use Rattle.node_server.specs.declared.next.Next.{Next}
use Rattle.node_server.specs.declared.next.Next.TheVariants.{Frame as NextFrame, Bad, End, CutOff, Failed, NoMemory}

-- what the bytes that were unread, with those that came behind them, begin with; the rest is unread now
abbrev pub Found : List ℕ → List ℕ → Bool → Next → Type 0
Found bytes rest at_end (NextFrame frame) = (bytes ≡ frame_bytes frame ++ rest) × IsSpellableFrame frame × (at_end ≡ false)
Found bytes rest at_end Bad = (bytes ≡ rest) × IsBadFrame rest × (at_end ≡ false)
Found bytes rest at_end End = (bytes ≡ []) × (rest ≡ []) × (at_end ≡ true)
Found bytes rest at_end CutOff = (bytes ≡ rest) × IsCutFrame rest × (rest ≢ []) × (at_end ≡ true)
Found bytes rest at_end Failed = (bytes ≡ rest) × IsCutFrame rest × (at_end ≡ false)
Found bytes rest at_end NoMemory = (bytes ≡ rest) × (at_end ≡ false)

-- a read failed exactly where this is said
abbrev pub HasFailed : ℕ → ℕ → Next → Type 0
HasFailed before now Failed = Rose before now
HasFailed before now (NextFrame frame) = now ≡ before
HasFailed before now Bad = now ≡ before
HasFailed before now End = now ≡ before
HasFailed before now CutOff = now ≡ before
HasFailed before now NoMemory = now ≡ before

-- Bytes came behind those that were unread, and nothing was written; what they begin with was found.
pub record ComesTo (unread rest : List ℕ) (old new : NetSeen) (next : Next) : Type 0 where
  pub got : List ℕ
  pub at_end : Bool
  pub talks : Talks old new [] got at_end
  pub found : Found (unread ++ got) rest at_end next
  pub cause : HasFailed old.line_faults new.line_faults next

-- how an input ended that leaves these bytes
abbrev pub end_next : List ℕ → Next
end_next [] = End
end_next (x ∷ xs) = CutOff
