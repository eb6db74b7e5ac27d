-- What reading a whole input, and writing a whole text, do to bytes that are told.
use Rattle.std.specs.Prelude.{◌≡◌, ℕ, ◌<◌, ◌≤◌, List, ◌++◌, length, Option, IfSome, codes}
use Rattle.std.specs.Io.KnownBytes.{Appends, Consumes, IsAtEnd}
use Rattle.outside_io.specs.declared.whole.InputError.{InputError}
use Rattle.outside_io.specs.declared.whole.InputError.TheVariants.{Failed, NoMemory}

-- these bytes are all that was still to come, and nothing is left
pub record IsWholeInput (old new : Option (List ℕ)) (bytes : List ℕ) : Type 0 where
  pub taken : Consumes old new bytes
  pub ended : IsAtEnd new

-- more bytes were still to come than the limit
abbrev pub IsOverLimit : ℕ → Option (List ℕ) → Type 0
IsOverLimit limit left = IfSome left (λ bytes. limit < length bytes)

-- the bytes still to come lost at most `most` bytes, all at their front
abbrev pub TakesAtMost : ℕ → Option (List ℕ) → Option (List ℕ) → Type 0
TakesAtMost most old new = (front : List ℕ) × Consumes old new front × (length front ≤ most)

-- the text is what was written, each byte once and in order, and then `rest`
pub record HasWritten (old new : Option (List ℕ)) (text rest : List ℕ) : Type 0 where
  pub front : List ℕ
  pub whole : text ≡ front ++ rest
  pub written : Appends old new front

-- some front of the text was written, each byte once and in order, and nothing else
abbrev pub AppendsPrefix : Option (List ℕ) → Option (List ℕ) → List ℕ → Type 0
AppendsPrefix old new text = (rest : List ℕ) × HasWritten old new text rest

-- a read moved n bytes from the front of those still to come behind those that were there
pub record HasGrown (old new : Option (List ℕ)) (before after : List ℕ) (n : ℕ) : Type 0 where
  pub front : List ℕ
  pub grown : after ≡ before ++ front
  pub taken : Consumes old new front
  pub count : length front ≡ n

-- what a person is told of an input that could not be read
abbrev pub input_error_text : InputError → List ℕ
input_error_text Failed = codes "a read failed"
input_error_text NoMemory = codes "no memory for the input"
