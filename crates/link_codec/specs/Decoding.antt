-- What the parts of a reader give.
use Rattle.std.specs.Prelude.{◌≡◌, ◌⊎◌, ℕ, ◌+◌, ◌≤◌, List, [], ◌∷◌, length, drop, Result, Ok, Err, IsErr}
use Rattle.log_records.specs.declared.faults.DecodeFault.{DecodeFault}
use Rattle.link_codec.specs.declared.faults.LinkFault.{LinkFault}
use Rattle.link_codec.specs.declared.faults.LinkFault.TheVariants.{Cut, Bad, NoMemory}
use Rattle.link_codec.specs.Framing.{Table, EndsEarly, IsCut, IsKind, IsSpelledBody, IsTooLong, told_body, told_length}

-- a body of this table stands whole behind the kind
pub record HasBody (table : Table) (rest body : List ℕ) : Type 0 where
  pub whole : 4 + told_length rest ≤ length rest
  pub few : told_length rest ≤ table.most
  pub long : length body ≡ told_length rest
  pub is : body ≡ told_body rest

-- the body behind the kind, or why there is none
abbrev pub FindsBody : {X : Type 0} → (X → List ℕ) → Table → List ℕ → Result X LinkFault → Type 0
FindsBody seen table rest (Ok x) = HasBody table rest (seen x)
FindsBody seen table rest (Err Cut) = EndsEarly table rest
FindsBody seen table rest (Err Bad) = IsTooLong table rest
FindsBody seen table rest (Err NoMemory) = ⊥

-- no kind, or a body that is too long
abbrev pub IsBadFront : Table → List ℕ → Type 0
IsBadFront table [] = ⊥
IsBadFront table (kind ∷ rest) = (IsKind table kind → ⊥) ⊎ IsTooLong table rest

-- why no kind with a body begins the input
abbrev pub FrontFault : Table → List ℕ → LinkFault → Type 0
FrontFault table input Cut = IsCut table input
FrontFault table input Bad = IsBadFront table input
FrontFault table input NoMemory = ⊥

-- the kind and the body that begin the input, or why there are none
abbrev pub Splits : {X : Type 0} → (X → List ℕ) → Table → List ℕ → Result (ℕ × X) LinkFault → Type 0
Splits seen table input (Ok x) = (rest : List ℕ) × (input ≡ x.0 ∷ rest) × IsKind table x.0 × HasBody table rest (seen x.1)
Splits seen table input (Err fault) = FrontFault table input fault

-- nothing is read there, unless memory ran out
abbrev pub Refuses : {Y : Type 0} → LinkFault → Result Y DecodeFault → Type 0
Refuses Cut read = ⊥
Refuses Bad read = IsErr read
Refuses NoMemory read = Unit {0}

-- a field was taken as records are read, as seen by a function, and the rest is left; or it was refused
abbrev pub TakesAs : {X Y : Type 0} → (X → Y) → Result X LinkFault → Result (Y × List ℕ) DecodeFault → List ℕ → Type 0
TakesAs seen (Ok x) read rest = read ≡ Ok (seen x, rest)
TakesAs seen (Err fault) read rest = Refuses fault read

abbrev pub Takes : {X : Type 0} → Result X LinkFault → Result (X × List ℕ) DecodeFault → List ℕ → Type 0
Takes (Ok x) read rest = read ≡ Ok (x, rest)
Takes (Err fault) read rest = Refuses fault read

-- the same, with the number of the bytes that were taken
abbrev pub TakesFront : {X : Type 0} → Result (X × ℕ) LinkFault → Result (X × List ℕ) DecodeFault → List ℕ → Type 0
TakesFront (Ok x) read bytes = (x.1 ≤ length bytes) × (read ≡ Ok (x.0, drop x.1 bytes))
TakesFront (Err fault) read bytes = Refuses fault read

-- the value that a whole body of this kind is, or that it is none
abbrev pub GivesBody : {X : Type 0} → (X → ℕ) → (X → List ℕ) → (X → Type 0) → ℕ → List ℕ → Result X LinkFault → Type 0
GivesBody kind_of body_of HasSpelling kind body (Ok x) = HasSpelling x × (kind_of x ≡ kind) × (body_of x ≡ body)
GivesBody kind_of body_of HasSpelling kind body (Err Cut) = ⊥
GivesBody kind_of body_of HasSpelling kind body (Err Bad) = IsSpelledBody kind_of body_of HasSpelling kind body → ⊥
GivesBody kind_of body_of HasSpelling kind body (Err NoMemory) = Unit {0}
