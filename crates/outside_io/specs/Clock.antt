-- What the readings of a clock do to what it tells.
use Rattle.std.specs.Prelude.{◌≡◌, ℕ, List, [], ◌∷◌, Option, Some, None}

-- the reading that comes next; 0 where there is none
abbrev pub next_reading : List ℕ → ℕ
next_reading [] = 0
next_reading (reading ∷ readings) = reading

-- the readings behind it; the last one stays
abbrev pub later_readings : List ℕ → List ℕ
later_readings [] = []
later_readings (last ∷ []) = last ∷ []
later_readings (reading ∷ next ∷ readings) = next ∷ readings

-- a clock gave these readings, in this order
abbrev pub Gave : List ℕ → List ℕ → List ℕ → Type 0
Gave old new [] = new ≡ old
Gave old new (reading ∷ readings) = (reading ≡ next_reading old) × Gave (later_readings old) new readings

-- the same, of a clock that may tell its readings or not
abbrev pub GaveTold : Option (List ℕ) → Option (List ℕ) → List ℕ → Type 0
GaveTold None new readings = new ≡ None
GaveTold (Some old) None readings = ⊥
GaveTold (Some old) (Some new) readings = Gave old new readings
