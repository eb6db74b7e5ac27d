-- Lengths as bytes, and frames.
use Rattle.std.proofs.Common.{◌≡◌, ℕ, ◌+◌, ◌-◌, List, [], ◌∷◌, ◌++◌, length, take, drop, refl, sym, ◌∙◌, ap, subst, arith, append_assoc, length-append}
use Rattle.std.proofs.lemmas.List.{take_at, drop_at}
use Rattle.node_journal.specs.Frames.{length_bytes, IsSmall, frame_of, payload_in, IsFrame}

pub length-length_bytes : (size : ℕ) → length (length_bytes size) ≡ 4
unfolding length_bytes
length-length_bytes size = refl

pub length-frame_of : (payload : List ℕ) → length (frame_of payload) ≡ length payload + 5
length-frame_of payload =
    omega (arith, length-append (length_bytes (length payload) ++ payload) (0 ∷ []), length-append (length_bytes (length payload)) payload, length-length_bytes (length payload))

payload_in-frame_of : (payload : List ℕ) → payload_in (frame_of payload) ≡ payload
payload_in-frame_of payload =
    let size : length (frame_of payload) - 5 ≡ length payload = omega (arith, length-frame_of payload) in
    let rest : drop 4 (frame_of payload) ≡ payload ++ 0 ∷ [] =
    ap (drop 4) (append_assoc (length_bytes (length payload)) payload (0 ∷ [])) ∙ drop_at (length_bytes (length payload)) (payload ++ 0 ∷ []) 4 (length-length_bytes (length payload)) in
    ap (λ (n : ℕ). take n (drop 4 (frame_of payload))) size ∙ ap (take (length payload)) rest ∙ take_at payload (0 ∷ []) (length payload) refl

-- what was made for a payload is its frame
pub frame_whole : (bytes payload : List ℕ) → IsSmall payload → bytes ≡ frame_of payload → IsFrame bytes × (payload_in bytes ≡ payload)
frame_whole bytes payload small is =
    let inner : payload_in bytes ≡ payload = ap payload_in is ∙ payload_in-frame_of payload in
    (record { whole = is ∙ ap frame_of (sym inner); small = subst IsSmall (sym inner) small }, inner)

pub frame_size : (payload : List ℕ) → length (frame_of payload) ≡ length payload + 5
frame_size = length-frame_of
