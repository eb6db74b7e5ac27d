-- What each exit of an `append` leaves.
use Rattle.std.proofs.Common.{◌≡◌, ◌≢◌, inl, inr, ℕ, ◌+◌, ◌<◌, true, false, List, [], ◌∷◌, ◌++◌, length, get_or, Option, Some, None, option_map, is_some, IfSome, refl, sym, ◌∙◌, ap, subst, arith}
use Rattle.std.specs.Option.{ForSome}
use Rattle.disk_store.specs.Disk.{DiskState, IsImage, EachImage, at_rest, over, after_write, after_sync}
use Rattle.disk_store.specs.Moments.{AtEachMoment}
use Rattle.disk_store.specs.Laws.Moments.{Past, moments_start, moments_join, moments_weaker}
use Rattle.disk_store.specs.Laws.Writes.{torn_images, rest_images}
use Rattle.node_journal.specs.Frames.{IsSmall, frame_of, IsReadTo, EndsAt}
use Rattle.node_journal.specs.Appending.{IsReady, IsBeforeOrAfter, WhileWriting, sealed}
use Rattle.node_journal.proofs.Images.{staged, staged_before, staged_within, staged_gate, gate_over, sealed_ends, gate_images, frame_images, ends_kept, sealed_within, sealed_closed}

module _ (gate : ℕ) (payload : List ℕ) (small : IsSmall payload) where
  abbrev frame : List ℕ
  frame = frame_of payload

  -- the disk with the frame durable
  abbrev middle : DiskState → DiskState
  middle disk = after_sync (after_write (gate + 1) frame disk)

  abbrev Good : List (List ℕ) → DiskState → Type 0
  Good payloads disk = EachImage disk (IsBeforeOrAfter payloads payload)

  at_bytes : (bytes : List ℕ) (payloads : List (List ℕ)) → gate < length bytes → get_or bytes gate 0 ≢ 1 → IsReadTo bytes gate payloads
      → (disk : DiskState) → WhileWriting (gate + 1) frame (at_rest bytes) disk → Good payloads disk
  at_bytes bytes payloads within closed read disk (inl same) image is =
      let whole : image ≡ bytes = rest_images bytes image (subst (λ (d : DiskState). IsImage d image) same is) in
      subst (IsBeforeOrAfter payloads payload) (sym whole) (inl (inr (gate, record { read = read; closed = closed })))
  at_bytes bytes payloads within closed read disk (inr (inl torn)) image is =
      inl (inr (
        gate,
        frame_images gate payload bytes within payloads read closed (length frame) image
            (torn_images (gate + 1) (length frame) bytes (omega arith) disk image torn is),
      ))
  at_bytes bytes payloads within closed read disk (inr (inr done)) image is =
      let whole : image ≡ staged gate payload bytes within = rest_images (staged gate payload bytes within) image (subst (λ (d : DiskState). IsImage d image) done is) in
      subst (IsBeforeOrAfter payloads payload) (sym whole) (inl (inr (
        gate,
        ends_kept bytes (staged gate payload bytes within) gate payloads read (staged_before gate payload bytes within) (staged_within gate payload bytes within)
            (λ is_open. closed (sym (staged_gate gate payload bytes within) ∙ is_open)),
      )))

  at_gate : (bytes : List ℕ) (payloads : List (List ℕ)) → (within : gate < length bytes) → get_or bytes gate 0 ≢ 1 → IsReadTo bytes gate payloads
      → (disk : DiskState) → WhileWriting gate (1 ∷ []) (at_rest (staged gate payload bytes within)) disk → Good payloads disk
  at_gate bytes payloads within closed read disk (inl same) = at_bytes bytes payloads within closed read disk (inr (inr same))
  at_gate bytes payloads within closed read disk (inr (inl torn)) = λ image is.
      gate_images gate payload bytes within payloads read small image
      (torn_images gate 1 (staged gate payload bytes within) (omega (arith, staged_within gate payload bytes within)) disk image torn is)
  at_gate bytes payloads within closed read disk (inr (inr done)) = λ image is.
      let whole : image ≡ sealed gate payload bytes = rest_images (over gate (1 ∷ []) (staged gate payload bytes within)) image (subst (λ (d : DiskState). IsImage d image) done is)
      ∙ gate_over gate payload bytes within in
      subst (IsBeforeOrAfter payloads payload) (sym whole) (inr (inr (gate + 5 + length payload, sealed_ends gate payload bytes within payloads read small)))

  -- the same, of a disk that is ready
  first_good : (disk : DiskState) → IsReady disk gate → (payloads : List (List ℕ)) → IsReadTo disk.bytes gate payloads → (t : DiskState) → WhileWriting (gate + 1) frame disk t → Good payloads t
  first_good disk ready payloads read t while =
      at_bytes disk.bytes payloads ready.within ready.closed read t (subst (λ (d : DiskState). WhileWriting (gate + 1) frame d t) ready.at_rest while)

  second_good : (disk : DiskState) → IsReady disk gate → (payloads : List (List ℕ)) → IsReadTo disk.bytes gate payloads → (t : DiskState) → WhileWriting gate (1 ∷ []) (middle disk) t → Good payloads t
  second_good disk ready payloads read t while = at_gate disk.bytes payloads ready.within ready.closed read t while

  -- the clause on every moment
  abbrev pub Moments : Past → Past → Option DiskState → Option DiskState → Type 0
  Moments past past' old new = IfSome old (λ disk. (payloads : List (List ℕ)) → IsReadTo disk.bytes gate payloads → AtEachMoment past past' new (λ t. EachImage t (IsBeforeOrAfter payloads payload)))

  -- nothing was done
  pub moments_none : (past : Past) (old : Option DiskState) → ForSome old (λ disk. IsReady disk gate) → Moments past past old old
  moments_none past None ready = tt
  moments_none past (Some disk) ready = λ payloads read. moments_start (Good payloads) past disk (first_good disk (ready disk refl) payloads read disk (inl refl))

  -- the frame was written, or not
  pub moments_one : (past past' : Past) (old new : Option DiskState) → ForSome old (λ disk. IsReady disk gate)
      → IfSome old (λ disk. AtEachMoment past past' new (WhileWriting (gate + 1) frame disk)) → Moments past past' old new
  moments_one past past' None new ready moments = tt
  moments_one past past' (Some disk) None ready moments = λ payloads read. record { goes_on = moments.goes_on; each = tt }
  moments_one past past' (Some disk) (Some t) ready moments = λ payloads read.
      moments_weaker (WhileWriting (gate + 1) frame disk) (Good payloads) (first_good disk (ready disk refl) payloads read) past past' t moments

  -- the gate was written, or not
  pub moments_two : (past past1 past2 : Past) (old mid new : Option DiskState) → ForSome old (λ disk. IsReady disk gate)
      → IfSome old (λ disk. AtEachMoment past past1 mid (WhileWriting (gate + 1) frame disk)) → mid ≡ option_map middle old
      → IfSome mid (λ disk. AtEachMoment past1 past2 new (WhileWriting gate (1 ∷ []) disk)) → is_some new ≡ is_some mid → Moments past past2 old new
  moments_two past past1 past2 None mid new ready one is two told = tt
  moments_two past past1 past2 (Some disk) mid None ready one is two told = absurd (let some : is_some mid ≡ true = ap (λ (s : Option DiskState). is_some s) is in let clash : false ≡ true = told ∙ some in cc)
  moments_two past past1 past2 (Some disk) mid (Some t) ready one is two told = λ payloads read.
      let one' : AtEachMoment past past1 (Some (middle disk)) (WhileWriting (gate + 1) frame disk) = subst (λ (s : Option DiskState). AtEachMoment past past1 s (WhileWriting (gate + 1) frame disk)) is one in
      let two' : AtEachMoment past1 past2 (Some t) (WhileWriting gate (1 ∷ []) (middle disk)) = subst (λ (s : Option DiskState). IfSome s (λ d. AtEachMoment past1 past2 (Some t) (WhileWriting gate (1 ∷ []) d))) is two in
      moments_join (Good payloads) past past1 past2 (middle disk) t
      (moments_weaker (WhileWriting (gate + 1) frame disk) (Good payloads) (first_good disk (ready disk refl) payloads read) past past1 (middle disk) one')
      (moments_weaker (WhileWriting gate (1 ∷ []) (middle disk)) (Good payloads) (second_good disk (ready disk refl) payloads read) past1 past2 t two')

  -- one payload more
  pub one_more : (old : Option DiskState) → ForSome old (λ disk. IsReady disk gate)
      → IfSome old (λ disk. (payloads : List (List ℕ)) → IsReadTo disk.bytes gate payloads → EndsAt (sealed gate payload disk.bytes) (gate + 5 + length payload) (payloads ++ payload ∷ []))
  one_more None ready = tt
  one_more (Some disk) ready = λ payloads read. sealed_ends gate payload disk.bytes (ready disk refl).within payloads read small

-- what was sealed is ready for the next payload
pub sealed_ready : (old new : Option DiskState) (gate : ℕ) (payload : List ℕ) → ForSome old (λ disk. IsReady disk gate)
    → new ≡ option_map (λ disk. at_rest (sealed gate payload disk.bytes)) old → ForSome new (λ disk. IsReady disk (gate + 5 + length payload))
sealed_ready None new gate payload ready is disk told = absurd (let clash : Some disk ≡ None = sym told ∙ is in cc)
sealed_ready (Some old) new gate payload ready is disk told =
    let within : gate < length old.bytes = (ready old refl).within in
    let same : disk ≡ at_rest (sealed gate payload old.bytes) = let both : Some disk ≡ Some (at_rest (sealed gate payload old.bytes)) = sym told ∙ is in cc in
    let there : IsReady (at_rest (sealed gate payload old.bytes)) (gate + 5 + length payload) = record {
      at_rest = refl;
      within = sealed_within gate payload old.bytes within;
      closed = λ is_open. let clash : 0 ≡ 1 = sym (sealed_closed gate payload old.bytes within) ∙ is_open in cc;
    } in
    subst (λ (d : DiskState). IsReady d (gate + 5 + length payload)) (sym same) there

-- the frame and then the gate, each durable, are what is sealed
pub both_sealed : (old mid new : Option DiskState) (gate : ℕ) (payload : List ℕ) → ForSome old (λ disk. IsReady disk gate)
    → mid ≡ option_map (λ disk. after_sync (after_write (gate + 1) (frame_of payload) disk)) old → new ≡ option_map (λ disk. after_sync (after_write gate (1 ∷ []) disk)) mid
    → new ≡ option_map (λ disk. at_rest (sealed gate payload disk.bytes)) old
both_sealed None mid new gate payload ready one two = two ∙ ap (option_map (λ disk. after_sync (after_write gate (1 ∷ []) disk))) one
both_sealed (Some old) mid new gate payload ready one two =
    two ∙ ap (option_map (λ disk. after_sync (after_write gate (1 ∷ []) disk))) one
    ∙ ap (λ (bytes : List ℕ). Some (at_rest bytes)) (gate_over gate payload old.bytes (ready old refl).within)
