-- Names, keys and values as bytes: their limits, and which of them are the same.
use Rattle.std.specs.Prelude.{Bool, true, ℕ, List, [], ◌∷◌, ◌&&◌, nat_eq, not, ◌≡◌, ◌≤◌, length, All}
use Rattle.std.specs.List.{list_any}
use Rattle.std.specs.Cmp.Lexicographic.{pointwise}
use Rattle.helios_model.specs.Limits.{most_key_bytes, most_name_bytes, most_value_bytes}

-- a byte of a printed name: printable ASCII without the blank
abbrev pub IsNameByte : ℕ → Type 0
IsNameByte b = (33 ≤ b) × (b ≤ 126)

-- a byte of a key: as of a name, and not the sign `=`
abbrev pub IsKeyByte : ℕ → Type 0
IsKeyByte b = (33 ≤ b) × (b ≤ 126) × (b ≡ 61 → ⊥)

-- the name of a site
pub record IsName (bytes : List ℕ) : Type 0 where
  pub some : 1 ≤ length bytes
  pub most : length bytes ≤ most_name_bytes
  pub printable : All IsNameByte bytes

-- the key of a stored value
pub record IsKey (bytes : List ℕ) : Type 0 where
  pub some : 1 ≤ length bytes
  pub most : length bytes ≤ most_key_bytes
  pub printable : All IsKeyByte bytes

-- a stored value
abbrev pub IsValue : List ℕ → Type 0
IsValue bytes = length bytes ≤ most_value_bytes

-- whether two texts are the same, byte for byte
abbrev pub same_text : List ℕ → List ℕ → Bool
same_text a b = pointwise nat_eq a b

-- whether the text is one of these
abbrev pub contains_text : List (List ℕ) → List ℕ → Bool
contains_text texts text = list_any (λ other. same_text other text) texts

-- no two items have the same text
abbrev pub all_differ : {X : Type 0} → (X → List ℕ) → List X → Bool
all_differ text [] = true
all_differ text (x ∷ xs) = not (list_any (λ other. same_text (text other) (text x)) xs) && all_differ text xs
