-- Fields, taken from left to right. One that the input ends in is cut; one that its rule refuses is bad at its first byte, whose
-- place is counted from the front of the whole input: of so many bytes it is the place from which on `bytes` are left.
use Rattle.std.specs.Prelude.{ℕ, zero, suc, ◌-◌, ◌&&◌, Bool, List, [], ◌∷◌, ◌++◌, length, take, drop, Result, Ok, Err, nat_le, nat_lt, if◌then◌else◌}
use Rattle.std.specs.Int.{Width, byte_len, from_be_bytes}
use Rattle.log_records.specs.declared.faults.DecodeFault.{DecodeFault}
use Rattle.log_records.specs.declared.faults.DecodeFault.TheVariants.{Cut, Bad}

infixl 10 ◌>>=◌
-- what comes of a field that was accepted
abbrev pub ◌>>=◌ : {A B : Type 0} → Result A DecodeFault → (A → Result B DecodeFault) → Result B DecodeFault
(Ok x) >>= next = next x
(Err fault) >>= next = Err fault

-- from the least to the most
abbrev pub is_within : ℕ → ℕ → ℕ → Bool
is_within least most n = nat_le least n && nat_le n most

-- a value and the bytes behind it where it is accepted, else the place of its first byte
abbrev pub ruled : {X : Type 0} → Bool → ℕ → List ℕ → X → List ℕ → Result (X × List ℕ) DecodeFault
ruled accepted whole bytes x rest = if accepted then Ok (x, rest) else Err (Bad (whole - length bytes))

-- one byte
unfoldable pub byte_at : (ℕ → Bool) → ℕ → List ℕ → Result (ℕ × List ℕ) DecodeFault
byte_at rule whole [] = Err Cut
byte_at rule whole (b ∷ rest) = ruled (rule b) whole (b ∷ rest) b rest

-- a number of more bytes, the greatest first
unfoldable pub number_at : Width → (ℕ → Bool) → ℕ → List ℕ → Result (ℕ × List ℕ) DecodeFault
number_at w rule whole bytes =
    if nat_lt (length bytes) (byte_len w) then Err Cut
    else ruled (rule (from_be_bytes w (take (byte_len w) bytes))) whole bytes (from_be_bytes w (take (byte_len w) bytes)) (drop (byte_len w) bytes)

-- so many bytes as they are
unfoldable pub text_at : (List ℕ → Bool) → ℕ → ℕ → List ℕ → Result (List ℕ × List ℕ) DecodeFault
text_at rule n whole bytes =
    if nat_lt (length bytes) n then Err Cut
    else ruled (rule (take n bytes)) whole bytes (take n bytes) (drop n bytes)

-- so many items one after another, behind those that stand before them; an item may be refused for one before it
unfoldable pub each_after : {X : Type 0} → (List X → List ℕ → Result (X × List ℕ) DecodeFault) → ℕ → List X → List ℕ → Result (List X × List ℕ) DecodeFault
each_after item zero before bytes = Ok (before, bytes)
each_after item (suc n) before bytes = do
  x ← item before bytes
  each_after item n (before ++ x.0 ∷ []) x.1
