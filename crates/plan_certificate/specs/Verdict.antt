-- Which lists pair the sites, and the first place of one that doesn't.
use Rattle.std.specs.Prelude.{◌≡◌, ◌⊎◌, ℕ, ◌<◌, ◌≤◌, List, length, slice_index}

-- the partner at a place is no site, or is that of an earlier place
abbrev pub IsUnpaired : ℕ → List ℕ → ℕ → Type 0
IsUnpaired count pair place = (count ≤ slice_index pair place) ⊎ ((k : ℕ) × (k < place) × (slice_index pair k ≡ slice_index pair place))

-- the partners before a place are sites, each another one
abbrev pub ArePaired : ℕ → List ℕ → ℕ → Type 0
ArePaired count pair place = (k : ℕ) → k < place → IsUnpaired count pair k → ⊥

-- a partner is no site or stands before, and none earlier is or does
pub record IsFirstUnpaired (count : ℕ) (pair : List ℕ) (place : ℕ) : Type 0 where
  pub within : place < length pair
  pub unpaired : IsUnpaired count pair place
  pub before : ArePaired count pair place
