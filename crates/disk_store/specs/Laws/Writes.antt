-- What a disk may leave while it is written, and at rest.
use Rattle.std.proofs.Common.{◌≡◌, ◌⊎◌, inl, inr, ℕ, ◌+◌, ◌<◌, ◌≤◌, max, Bool, true, false, List, length, take, get_or, replicate, refl, sym, ◌∙◌, ap, arith}
use Rattle.std.proofs.lemmas.List.{get_or-take, ext_get_or, length-take-le, length-replicate, get_or-replicate}
use Rattle.disk_store.specs.Disk.{DiskState, IsImage, TornWrite, TornFrom, at_rest, over, after_write}
use Rattle.disk_store.specs.Laws.Over.{length-over, take-over, drop-over, over_before, over_behind}

-- a write that was done may have failed
pub write_is_torn : (at : ℕ) (from : List ℕ) (old : DiskState) → at ≤ length old.bytes → TornWrite at (length from) old (after_write at from old)
write_is_torn at from old le = record {
  synced = refl;
  written = inr refl;
  before = take-over at from old.bytes le;
  behind = drop-over at from old.bytes le;
}

-- a disk at rest has one image
pub rest_images : (bytes image : List ℕ) → IsImage (at_rest bytes) image → image ≡ bytes
rest_images bytes image is =
    let size : length image ≡ length bytes = omega (arith, is.no_shorter, is.no_longer, length-replicate (length bytes) false) in
    ext_get_or 0 image bytes size (λ place lt. let within : place < length bytes = omega (arith, size) in
    is.unwritten place within (get_or-replicate (length bytes) place false true within))

pub rest_image : (bytes : List ℕ) → IsImage (at_rest bytes) bytes
rest_image bytes = record { no_shorter = omega arith; no_longer = omega (arith, length-replicate (length bytes) false); unwritten = λ place within is. refl }

-- lists whose first items are the same
pub same_front : (n : ℕ) (xs ys : List ℕ) → n ≤ length xs → n ≤ length ys → ((i : ℕ) → i < n → get_or xs i 0 ≡ get_or ys i 0) → take n xs ≡ take n ys
same_front n xs ys le_x le_y same =
    ext_get_or 0 (take n xs) (take n ys) (length-take-le n xs le_x ∙ sym (length-take-le n ys le_y))
    (λ i lt. let below : i < n = omega (arith, length-take-le n xs le_x) in get_or-take n xs i 0 below ∙ same i below ∙ sym (get_or-take n ys i 0 below))

module _ (at size : ℕ) (bytes : List ℕ) (le : at ≤ length bytes) where
  abbrev clean : List Bool
  clean = replicate (length bytes) false

  -- the marks of a write that was begun or not
  abbrev pub Marks : List Bool → Type 0
  Marks written = (written ≡ clean) ⊎ (written ≡ over at (replicate size true) clean)

  size_clean : length clean ≡ length bytes
  size_clean = length-replicate (length bytes) false

  le_clean : at ≤ length clean
  le_clean = omega (arith, size_clean)

  size_range : length (replicate size true) ≡ size
  size_range = length-replicate size true

  unmarked : (place : ℕ) → place < length bytes → get_or clean place true ≡ false
  unmarked place lt = get_or-replicate (length bytes) place false true lt

  -- a place outside the range is not marked
  pub unmarked_before : (written : List Bool) → Marks written → (place : ℕ) → place < at → get_or written place true ≡ false
  unmarked_before written (inl same) place lt = ap (λ (l : List Bool). get_or l place true) same ∙ unmarked place (omega arith)
  unmarked_before written (inr over') place lt =
      ap (λ (l : List Bool). get_or l place true) over' ∙ over_before at (replicate size true) clean le_clean place true lt ∙ unmarked place (omega arith)

  pub unmarked_behind : (written : List Bool) → Marks written → (place : ℕ) → at + size ≤ place → place < length bytes → get_or written place true ≡ false
  unmarked_behind written (inl same) place ge lt = ap (λ (l : List Bool). get_or l place true) same ∙ unmarked place lt
  unmarked_behind written (inr over') place ge lt =
      ap (λ (l : List Bool). get_or l place true) over' ∙ over_behind at (replicate size true) clean le_clean place true (omega (arith, size_range)) ∙ unmarked place lt

  size_marks : (written : List Bool) → Marks written → length written ≤ max (length bytes) (at + size)
  size_marks written (inl same) = omega (arith, ap length same, size_clean)
  size_marks written (inr over') = omega (arith, ap length over', length-over at (replicate size true) clean le_clean, size_clean, size_range)

  -- each image of a disk with the write begun
  pub torn_images : (disk : DiskState) (image : List ℕ) → TornWrite at size (at_rest bytes) disk → IsImage disk image → TornFrom at size bytes image
  torn_images disk image torn is =
      let synced : length disk.synced ≡ length bytes = ap length torn.synced in
      let kept : (place : ℕ) → get_or disk.synced place 0 ≡ get_or bytes place 0 = λ place. ap (λ (l : List ℕ). get_or l place 0) torn.synced in
      record {
        no_shorter = omega (arith, is.no_shorter, synced);
        no_longer = omega (arith, is.no_longer, size_marks disk.written torn.written);
        before = same_front at image bytes (omega (arith, is.no_shorter, synced)) le
            (λ place lt. is.unwritten place (omega (arith, synced)) (unmarked_before disk.written torn.written place lt) ∙ kept place);
        behind = λ place ge lt. is.unwritten place (omega (arith, synced)) (unmarked_behind disk.written torn.written place ge lt) ∙ kept place;
      }
