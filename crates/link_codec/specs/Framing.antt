-- Frames and answers have one form: a byte for the kind, 4 bytes for the length of the body, and the body. The kind is tested first,
-- then the length, then the body.
use Rattle.std.specs.Prelude.{◌≡◌, ◌⊎◌, ℕ, ◌+◌, ◌<◌, ◌≤◌, List, [], ◌∷◌, ◌++◌, length, take, drop, Result, Ok, Err}
use Rattle.std.specs.Int.{w32, from_be_bytes, to_be_bytes}
use Rattle.link_codec.specs.declared.faults.LinkFault.{LinkFault}
use Rattle.link_codec.specs.declared.faults.LinkFault.TheVariants.{Cut, Bad, NoMemory}

-- how many kinds there are, numbered from 1, and the most bytes of a body
pub record Table : Type 0 where
  pub kinds : ℕ
  pub most : ℕ

abbrev pub framed : ℕ → List ℕ → List ℕ
framed kind body = kind ∷ to_be_bytes w32 (length body) ++ body

abbrev pub IsKind : Table → ℕ → Type 0
IsKind table kind = (1 ≤ kind) × (kind ≤ table.kinds)

-- the length that the 4 bytes behind the kind tell
abbrev pub told_length : List ℕ → ℕ
told_length rest = from_be_bytes w32 (take 4 rest)

-- so many bytes behind the 4 for the length
abbrev pub told_body : List ℕ → List ℕ
told_body rest = take (told_length rest) (drop 4 rest)

-- what stands behind the kind ends within the length, or within a body that is not too long
abbrev pub EndsEarly : Table → List ℕ → Type 0
EndsEarly table rest = (length rest < 4) ⊎ ((told_length rest ≤ table.most) × (length rest < 4 + told_length rest))

-- the length is whole and over the limit
abbrev pub IsTooLong : Table → List ℕ → Type 0
IsTooLong table rest = (4 ≤ length rest) × (table.most < told_length rest)

-- the input ends before what it begins with does
abbrev pub IsCut : Table → List ℕ → Type 0
IsCut table [] = Unit {0}
IsCut table (kind ∷ rest) = IsKind table kind × EndsEarly table rest

-- nothing begins so, since there is no such kind, or its body is too long, or is whole and none of this kind
abbrev pub IsBad : Table → (ℕ → List ℕ → Type 0) → List ℕ → Type 0
IsBad table IsBody [] = ⊥
IsBad table IsBody (kind ∷ rest) =
    (IsKind table kind → ⊥)
    ⊎ IsTooLong table rest
    ⊎ ((4 + told_length rest ≤ length rest) × (IsBody kind (told_body rest) → ⊥))

-- some value with a spelling is of this kind and has this body
abbrev pub IsSpelledBody : {X : Type 0} → (X → ℕ) → (X → List ℕ) → (X → Type 0) → ℕ → List ℕ → Type 0
IsSpelledBody {X} kind_of body_of HasSpelling kind body = (x : X) × HasSpelling x × (kind_of x ≡ kind) × (body_of x ≡ body)

-- what a reader answers to an input: a value whose spelling begins it and how long that is, or why there is none
abbrev pub Decodes : {X : Type 0} → (X → ℕ) → (X → List ℕ) → (X → Type 0) → Table → List ℕ → Result (X × ℕ) LinkFault → Type 0
Decodes kind_of body_of HasSpelling table input (Ok x) =
    HasSpelling x.0 × (x.1 ≡ length (framed (kind_of x.0) (body_of x.0))) × (input ≡ framed (kind_of x.0) (body_of x.0) ++ drop x.1 input)
Decodes kind_of body_of HasSpelling table input (Err Cut) = IsCut table input
Decodes kind_of body_of HasSpelling table input (Err Bad) = IsBad table (IsSpelledBody kind_of body_of HasSpelling) input
Decodes kind_of body_of HasSpelling table input (Err NoMemory) = Unit {0}
