-- What the bytes of a journal stand for.
use Rattle.std.specs.Prelude.{◌≡◌, ◌≢◌, ◌⊎◌, ℕ, ◌+◌, ◌-◌, ◌<◌, ◌≤◌, List, [], ◌∷◌, ◌++◌, length, take, drop, slice_index}
use Rattle.std.specs.List.{All}
use Rattle.std.specs.Int.{w32, to_be_bytes, from_be_bytes}

-- a length as four bytes, the highest first
unfoldable pub length_bytes : ℕ → List ℕ
length_bytes size = to_be_bytes w32 size

-- the number that four bytes spell
unfoldable pub length_from : List ℕ → ℕ
length_from bytes = from_be_bytes w32 bytes

-- the most bytes of a payload
abbrev pub most_payload : ℕ
most_payload = 20000000

-- a payload is no longer than that
abbrev pub IsSmall : List ℕ → Type 0
IsSmall payload = length payload ≤ most_payload

-- what stands behind a gate: the payload's length, the payload, and the next gate, closed
abbrev pub frame_of : List ℕ → List ℕ
frame_of payload = length_bytes (length payload) ++ payload ++ 0 ∷ []

-- the payloads, each behind an open gate and its length
abbrev pub frames : List (List ℕ) → List ℕ
frames [] = []
frames (payload ∷ payloads) = 1 ∷ length_bytes (length payload) ++ payload ++ frames payloads

-- a gate stands at this place, and before it the open frames of these payloads and nothing else
pub record IsReadTo (image : List ℕ) (gate : ℕ) (payloads : List (List ℕ)) : Type 0 where
  pub passed : take gate image ≡ frames payloads
  pub within : gate < length image
  pub small : All IsSmall payloads

-- these payloads, and then a gate that is not open
pub record EndsAt (image : List ℕ) (gate : ℕ) (payloads : List (List ℕ)) : Type 0 where
  pub read : IsReadTo image gate payloads
  pub closed : slice_index image gate ≢ 1

-- An image stands for the payloads up to its first gate that is not open; one of 0 or 1 bytes for none.
abbrev pub StandsFor : List ℕ → List (List ℕ) → Type 0
StandsFor image payloads = ((length image ≤ 1) × (payloads ≡ [])) ⊎ ((gate : ℕ) × EndsAt image gate payloads)

-- the gate at this place is open, and behind it stand this payload with its length, and the next gate
pub record HoldsFrame (image : List ℕ) (gate : ℕ) (payload : List ℕ) : Type 0 where
  pub frame : drop gate image ≡ 1 ∷ length_bytes (length payload) ++ payload ++ drop (gate + 5 + length payload) image
  pub next : gate + 5 + length payload < length image
  pub small : IsSmall payload

-- the length that stands behind a gate
abbrev pub length_at : List ℕ → ℕ → ℕ
length_at image gate = length_from (take 4 (drop (gate + 1) image))

-- the gate is open, and leads to no length, to one that is too great, or past the end
pub record LeadsNowhere (image : List ℕ) (gate : ℕ) : Type 0 where
  pub is_open : slice_index image gate ≡ 1
  pub nowhere : (length image < gate + 5) ⊎ (most_payload < length_at image gate) ⊎ (length image < gate + 6 + length_at image gate)

-- the payload within what stands behind a gate
abbrev pub payload_in : List ℕ → List ℕ
payload_in bytes = take (length bytes - 5) (drop 4 bytes)

-- the bytes are those that stand behind a gate for their payload
pub record IsFrame (bytes : List ℕ) : Type 0 where
  pub whole : bytes ≡ frame_of (payload_in bytes)
  pub small : IsSmall (payload_in bytes)
