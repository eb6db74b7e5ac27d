-- What images stand for, and how that stays or grows.
use Rattle.std.proofs.Common.{◌≡◌, ◌≢◌, ◌⊎◌, inl, inr, ℕ, ◌+◌, ◌-◌, ◌<◌, ◌≤◌, max, List, [], ◌∷◌, ◌++◌, length, take, drop, get_or, sym, ◌∙◌, ap, subst, arith, append_assoc, length-append, take-append-drop}
use Rattle.std.proofs.lemmas.Bool.{cases_eq, cases_lt}
use Rattle.std.proofs.lemmas.List.{take_at, drop_at, take-take, get_or-take, get_or_at, ext_get_or, length-take-le, append-nil}
use Rattle.std.proofs.lemmas.List.Elements.{All-push}
use Rattle.disk_store.specs.Disk.{DiskState, IsImage, EachImage, TornFrom, over}
use Rattle.disk_store.specs.Laws.Over.{length-over, take-over, over_before, over_within, over_behind}
use Rattle.node_journal.specs.Frames.{length_bytes, IsSmall, frame_of, frames, IsReadTo, EndsAt, HoldsFrame, StandsFor}
use Rattle.node_journal.specs.Appending.{IsBeforeOrAfter, sealed}
use Rattle.node_journal.proofs.Bytes.{length-length_bytes, length-frame_of}

-- one payload more
pub frames-push : (payloads : List (List ℕ)) (payload : List ℕ) → frames (payloads ++ payload ∷ []) ≡ frames payloads ++ (1 ∷ length_bytes (length payload) ++ payload)
frames-push [] payload = append-nil (1 ∷ length_bytes (length payload) ++ payload)
frames-push (p ∷ payloads) payload =
    ap (λ (l : List ℕ). 1 ∷ length_bytes (length p) ++ p ++ l) (frames-push payloads payload)
    ∙ sym (append_assoc (1 ∷ length_bytes (length p) ++ p) (frames payloads) (1 ∷ length_bytes (length payload) ++ payload))

-- an open gate, a length and a payload
pub length_frame : (payload : List ℕ) → length (1 ∷ length_bytes (length payload) ++ payload) ≡ 5 + length payload
length_frame payload = omega (arith, length-append (length_bytes (length payload)) payload, length-length_bytes (length payload))

pub size_read : (image : List ℕ) (gate : ℕ) (payloads : List (List ℕ)) → IsReadTo image gate payloads → length (frames payloads) ≡ gate
size_read image gate payloads read = sym (ap length read.passed) ∙ length-take-le gate image (omega (arith, read.within))

-- a frame behind the gate leads to the next gate
pub read_more : (image : List ℕ) (gate : ℕ) (payload : List ℕ) (payloads : List (List ℕ)) → IsReadTo image gate payloads → HoldsFrame image gate payload
    → IsReadTo image (gate + 5 + length payload) (payloads ++ payload ∷ [])
read_more image gate payload payloads read frame =
    let next = gate + 5 + length payload in
    let head = 1 ∷ length_bytes (length payload) ++ payload in
    let split : image ≡ (frames payloads ++ head) ++ drop next image =
    sym (take-append-drop gate image) ∙ ap (λ (l : List ℕ). l ++ drop gate image) read.passed ∙ ap (λ (l : List ℕ). frames payloads ++ l) frame.frame
    ∙ sym (append_assoc (frames payloads) head (drop next image)) in
    let size : length (frames payloads ++ head) ≡ next = omega (arith, length-append (frames payloads) head, length_frame payload, size_read image gate payloads read) in
    record {
      passed = ap (take next) split ∙ take_at (frames payloads ++ head) (drop next image) next size ∙ sym (frames-push payloads payload);
      within = frame.next;
      small = All-push IsSmall payloads payload read.small frame.small;
    }

-- what stands behind the gate does not matter while it is not open
pub ends_kept : (image image' : List ℕ) (gate : ℕ) (payloads : List (List ℕ)) → IsReadTo image gate payloads → take gate image' ≡ take gate image → gate < length image' → get_or image' gate 0 ≢ 1 → EndsAt image' gate payloads
ends_kept image image' gate payloads read same within closed =
    record { read = record { passed = same ∙ read.passed; within = within; small = read.small }; closed = closed }

module _ (gate : ℕ) (payload bytes : List ℕ) (within : gate < length bytes) where
  abbrev pub staged : List ℕ
  staged = over (gate + 1) (frame_of payload) bytes

  le_next : gate + 1 ≤ length bytes
  le_next = omega arith

  size_staged : length staged ≡ max (length bytes) (gate + 1 + length (frame_of payload))
  size_staged = length-over (gate + 1) (frame_of payload) bytes le_next

  pub staged_front : take (gate + 1) staged ≡ take (gate + 1) bytes
  staged_front = take-over (gate + 1) (frame_of payload) bytes le_next

  pub staged_before : take gate staged ≡ take gate bytes
  staged_before = sym (take-take gate (gate + 1) staged (omega arith)) ∙ ap (take gate) staged_front ∙ take-take gate (gate + 1) bytes (omega arith)

  pub staged_within : gate < length staged
  staged_within = omega (arith, size_staged)

  pub staged_gate : get_or staged gate 0 ≡ get_or bytes gate 0
  staged_gate = over_before (gate + 1) (frame_of payload) bytes le_next gate 0 (omega arith)

  -- the gate over what was staged gives what is sealed
  pub gate_over : over gate (1 ∷ []) staged ≡ sealed gate payload bytes
  gate_over =
      let rest : drop (gate + 1) staged ≡ frame_of payload ++ drop (gate + 1 + length (frame_of payload)) bytes =
      ap (drop (gate + 1)) (append_assoc (take (gate + 1) bytes) (frame_of payload) (drop (gate + 1 + length (frame_of payload)) bytes))
      ∙ drop_at (take (gate + 1) bytes) (frame_of payload ++ drop (gate + 1 + length (frame_of payload)) bytes) (gate + 1) (length-take-le (gate + 1) bytes le_next) in
      let ends : gate + 1 + length (frame_of payload) ≡ gate + length (1 ∷ frame_of payload) = omega arith in
      ap (λ (l : List ℕ). l ++ (1 ∷ []) ++ drop (gate + 1) staged) staged_before
      ∙ ap (λ (l : List ℕ). take gate bytes ++ (1 ∷ []) ++ l) rest
      ∙ append_assoc (take gate bytes) (1 ∷ []) (frame_of payload ++ drop (gate + 1 + length (frame_of payload)) bytes)
      ∙ sym (append_assoc (take gate bytes) (1 ∷ frame_of payload) (drop (gate + 1 + length (frame_of payload)) bytes))
      ∙ ap (λ (n : ℕ). take gate bytes ++ (1 ∷ frame_of payload) ++ drop n bytes) ends

  size_sealed : length (sealed gate payload bytes) ≡ max (length bytes) (gate + (length payload + 6))
  size_sealed = omega (arith, length-over gate (1 ∷ frame_of payload) bytes (omega arith), length-frame_of payload)

  -- the next gate stands there and is closed
  pub sealed_within : gate + 5 + length payload < length (sealed gate payload bytes)
  sealed_within = omega (arith, size_sealed)

  pub sealed_closed : get_or (sealed gate payload bytes) (gate + 5 + length payload) 0 ≡ 0
  sealed_closed =
      let head = 1 ∷ length_bytes (length payload) ++ payload in
      let rest = drop (gate + length (1 ∷ frame_of payload)) bytes in
      let split : sealed gate payload bytes ≡ (take gate bytes ++ head) ++ 0 ∷ rest =
      ap (λ (l : List ℕ). l ++ rest) (sym (append_assoc (take gate bytes) head (0 ∷ []))) ∙ append_assoc (take gate bytes ++ head) (0 ∷ []) rest in
      let size : length (take gate bytes ++ head) ≡ gate + 5 + length payload =
      omega (arith, length-append (take gate bytes) head, length_frame payload, length-take-le gate bytes (omega arith)) in
      ap (λ (l : List ℕ). get_or l (gate + 5 + length payload) 0) split ∙ get_or_at (take gate bytes ++ head) 0 rest 0 (gate + 5 + length payload) size

  -- the next gate ends the list with one payload more
  pub sealed_ends : (payloads : List (List ℕ)) → IsReadTo bytes gate payloads → IsSmall payload → EndsAt (sealed gate payload bytes) (gate + 5 + length payload) (payloads ++ payload ∷ [])
  sealed_ends payloads read small =
      let next = gate + 5 + length payload in
      let head = 1 ∷ length_bytes (length payload) ++ payload in
      let rest = drop (gate + length (1 ∷ frame_of payload)) bytes in
      let split : sealed gate payload bytes ≡ (frames payloads ++ head) ++ 0 ∷ rest =
      ap (λ (l : List ℕ). l ++ (head ++ 0 ∷ []) ++ rest) read.passed
      ∙ ap (λ (l : List ℕ). l ++ rest) (sym (append_assoc (frames payloads) head (0 ∷ [])))
      ∙ append_assoc (frames payloads ++ head) (0 ∷ []) rest in
      let size : length (frames payloads ++ head) ≡ next = omega (arith, length-append (frames payloads) head, length_frame payload, size_read bytes gate payloads read) in
      let gate_is : get_or (sealed gate payload bytes) next 0 ≡ 0 = ap (λ (l : List ℕ). get_or l next 0) split ∙ get_or_at (frames payloads ++ head) 0 rest 0 next size in
      record {
        read = record {
          passed = ap (take next) split ∙ take_at (frames payloads ++ head) (0 ∷ rest) next size ∙ sym (frames-push payloads payload);
          within = omega (arith, size_sealed);
          small = All-push IsSmall payloads payload read.small small;
        };
        closed = λ is_open. let clash : 0 ≡ 1 = sym gate_is ∙ is_open in cc;
      }

  -- an image with the gate open and the rest as it was staged
  pub gate_opened : (image : List ℕ) → TornFrom gate 1 staged image → get_or image gate 0 ≡ 1 → image ≡ sealed gate payload bytes
  gate_opened image torn is_open =
      let size : length image ≡ length staged = omega (arith, torn.no_shorter, torn.no_longer, staged_within) in
      let le : gate ≤ length staged = omega (arith, staged_within) in
      let size' : length (over gate (1 ∷ []) staged) ≡ length staged = omega (arith, length-over gate (1 ∷ []) staged le, staged_within) in
      let whole : image ≡ over gate (1 ∷ []) staged = ext_get_or 0 image (over gate (1 ∷ []) staged) (omega (arith, size, size')) (λ place lt. elim (cases_lt place gate) [
        | inl before ↦
            sym (get_or-take gate image place 0 before) ∙ ap (λ (l : List ℕ). get_or l place 0) torn.before ∙ get_or-take gate staged place 0 before
            ∙ sym (over_before gate (1 ∷ []) staged le place 0 before)
        | inr past ↦ elim (cases_eq place gate) [
          | inl here ↦
              let gone : place - gate ≡ 0 = omega arith in
              ap (λ (n : ℕ). get_or image n 0) here ∙ is_open
              ∙ sym (over_within gate (1 ∷ []) staged le place 0 past (omega arith) ∙ ap (λ (n : ℕ). get_or (1 ∷ []) n 0) gone)
          | inr beyond ↦ torn.behind place (omega arith) (omega (arith, size)) ∙ sym (over_behind gate (1 ∷ []) staged le place 0 (omega arith))
        ]
      ]) in
      whole ∙ gate_over

  -- an image while the gate is written: the gate is open and the rest as it was staged, or it is not open
  pub gate_images : (payloads : List (List ℕ)) → IsReadTo bytes gate payloads → IsSmall payload → (image : List ℕ) → TornFrom gate 1 staged image → IsBeforeOrAfter payloads payload image
  gate_images payloads read small image torn =
      let size : length image ≡ length staged = omega (arith, torn.no_shorter, torn.no_longer, staged_within) in
      let within' : gate < length image = omega (arith, size, staged_within) in
      elim (cases_eq (get_or image gate 0) 1) [
        | inl is_open ↦
            let whole : image ≡ sealed gate payload bytes = gate_opened image torn is_open in
            inr (subst (λ (l : List ℕ). StandsFor l (payloads ++ payload ∷ [])) (sym whole) (inr (gate + 5 + length payload, sealed_ends payloads read small)))
        | inr closed ↦ inl (inr (gate, ends_kept bytes image gate payloads read (torn.before ∙ staged_before) within' closed))
      ]

  -- an image while the frame is written behind a gate that is not open
  pub frame_images : (payloads : List (List ℕ)) → IsReadTo bytes gate payloads → get_or bytes gate 0 ≢ 1 → (size : ℕ) (image : List ℕ) → TornFrom (gate + 1) size bytes image → EndsAt image gate payloads
  frame_images payloads read closed size image torn =
      let within' : gate < length image = omega (arith, torn.no_shorter) in
      let same : take gate image ≡ take gate bytes =
      sym (take-take gate (gate + 1) image (omega arith)) ∙ ap (take gate) torn.before ∙ take-take gate (gate + 1) bytes (omega arith) in
      let gate_same : get_or image gate 0 ≡ get_or bytes gate 0 =
      sym (get_or-take (gate + 1) image gate 0 (omega arith)) ∙ ap (λ (l : List ℕ). get_or l gate 0) torn.before ∙ get_or-take (gate + 1) bytes gate 0 (omega arith) in
      ends_kept bytes image gate payloads read same within' (λ is_open. closed (sym gate_same ∙ is_open))

-- the gate behind a list stands where the list's frames end
pub one_gate : (image : List ℕ) (gate : ℕ) (payloads : List (List ℕ)) → EndsAt image gate payloads → gate ≡ length (frames payloads)
one_gate image gate payloads ends = sym (size_read image gate payloads ends.read)

-- what a disk reads as is one of its images
pub settled : (disk : DiskState) (payloads : List (List ℕ)) (payload : List ℕ) → EachImage disk (IsBeforeOrAfter payloads payload) → IsImage disk disk.bytes
    → StandsFor disk.bytes payloads ⊎ StandsFor disk.bytes (payloads ++ payload ∷ [])
settled disk payloads payload each reads = each disk.bytes reads
