-- Bytes of which those at the places written are replaced.
use Rattle.std.proofs.Common.{◌≡◌, ◌⊎◌, inl, inr, ◌∙◌, if◌then◌else◌, ℕ, zero, suc, ◌+◌, ◌<◌, Bool, true, false, List, [], ◌∷◌, length, take, set, get_or, refl, arith}
use Rattle.disk_store.specs.Disk.{DiskState, IsImage}
use Rattle.disk_store.specs.Crash.{fill_written, kept}
use Rattle.disk_store.specs.declared.fate.Keep.{Keep}
use Rattle.disk_store.specs.declared.fate.Keep.TheVariants.{All, Nothing, Byte}
use Rattle.disk_store.specs.Laws.Crash.{length-fill_written, fill_kept}

filled : (byte n : ℕ) (marks : List Bool) (bytes : List ℕ) → n < length marks → n < length bytes → get_or marks n false ≡ true
    → fill_written byte (take (suc n) marks) bytes ≡ set (fill_written byte (take n marks) bytes) n byte
filled byte n [] bytes in_marks in_bytes is = absurd (omega arith)
filled byte n (mark ∷ marks) [] in_marks in_bytes is = absurd (omega arith)
filled byte zero (mark ∷ marks) (old ∷ bytes) in_marks in_bytes is = rw is
filled byte (suc n) (mark ∷ marks) (old ∷ bytes) in_marks in_bytes is = rw (filled byte n marks bytes (omega arith) (omega arith) is)

passed : (byte n : ℕ) (marks : List Bool) (bytes : List ℕ) → n < length marks → n < length bytes → get_or marks n false ≡ false
    → fill_written byte (take (suc n) marks) bytes ≡ fill_written byte (take n marks) bytes
passed byte n [] bytes in_marks in_bytes is = absurd (omega arith)
passed byte n (mark ∷ marks) [] in_marks in_bytes is = absurd (omega arith)
passed byte zero (mark ∷ marks) (old ∷ bytes) in_marks in_bytes is = rw is
passed byte (suc n) (mark ∷ marks) (old ∷ bytes) in_marks in_bytes is = rw (passed byte n marks bytes (omega arith) (omega arith) is)

-- one place more
pub fill_more : (byte n : ℕ) (marks : List Bool) (bytes : List ℕ) → n < length marks → n < length bytes
    → fill_written byte (take (n + 1) marks) bytes ≡ (if get_or marks n false then set (fill_written byte (take n marks) bytes) n byte else fill_written byte (take n marks) bytes)
fill_more byte n marks bytes in_marks in_bytes =
    let next : n + 1 ≡ suc n = omega arith in
    rw next (elim (is_marked (get_or marks n false)) [
      | inl is ↦ rw is (filled byte n marks bytes in_marks in_bytes is)
      | inr is ↦ rw is (passed byte n marks bytes in_marks in_bytes is)
    ])
  where
    is_marked : (b : Bool) → (b ≡ true) ⊎ (b ≡ false)
    is_marked true = inl refl
    is_marked false = inr refl

-- what a crash leaves is an image
pub kept_image : (keep : Keep) (disk : DiskState) → IsImage disk disk.bytes → length disk.written ≡ length disk.bytes → IsImage disk (kept keep disk)
kept_image All disk image marked = image
kept_image Nothing disk image marked = record {
  no_shorter = omega arith;
  no_longer = omega (arith, image.no_shorter);
  unwritten = λ place within is. refl;
}
kept_image (Byte byte) disk image marked = record {
  no_shorter = omega (arith, length-fill_written byte disk.written disk.bytes, image.no_shorter);
  no_longer = omega (arith, length-fill_written byte disk.written disk.bytes);
  unwritten = λ place within is. fill_kept byte place disk.written disk.bytes is ∙ image.unwritten place within is;
}
