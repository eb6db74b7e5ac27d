-- What a crash leaves of bytes that were written.
use Rattle.std.proofs.Common.{◌≡◌, inr, ℕ, zero, suc, ◌<◌, ◌≤◌, Bool, true, false, List, [], ◌∷◌, length, get_or, replicate, refl, ◌∙◌, ap, arith}
use Rattle.disk_store.specs.Disk.{TornFrom, at_rest, over, after_write}
use Rattle.disk_store.specs.Crash.{fill_written, kept}
use Rattle.disk_store.specs.declared.fate.Keep.{Keep}
use Rattle.disk_store.specs.declared.fate.Keep.TheVariants.{All, Nothing, Byte}
use Rattle.disk_store.specs.Laws.Over.{length-over, take-over, over_before, over_behind}
use Rattle.disk_store.specs.Laws.Writes.{same_front, unmarked_before, unmarked_behind}

pub length-fill_written : (byte : ℕ) (marks : List Bool) (bytes : List ℕ) → length (fill_written byte marks bytes) ≡ length bytes
length-fill_written byte [] bytes = refl
length-fill_written byte (mark ∷ marks) [] = refl
length-fill_written byte (mark ∷ marks) (old ∷ bytes) = ap suc (length-fill_written byte marks bytes)

-- a place that was not written keeps its byte
pub fill_kept : (byte place : ℕ) (marks : List Bool) (bytes : List ℕ) → get_or marks place true ≡ false → get_or (fill_written byte marks bytes) place 0 ≡ get_or bytes place 0
fill_kept byte place [] bytes is = refl
fill_kept byte place (mark ∷ marks) [] is = refl
fill_kept byte zero (mark ∷ marks) (old ∷ bytes) is = rw is
fill_kept byte (suc place) (mark ∷ marks) (old ∷ bytes) is = fill_kept byte place marks bytes is

-- a place that was written has the byte
pub fill_marked : (byte place : ℕ) (marks : List Bool) (bytes : List ℕ) → get_or marks place false ≡ true → place < length bytes → get_or (fill_written byte marks bytes) place 0 ≡ byte
fill_marked byte place [] bytes is within = absurd (let clash : false ≡ true = is in cc)
fill_marked byte place (mark ∷ marks) [] is within = absurd (omega arith)
fill_marked byte zero (mark ∷ marks) (old ∷ bytes) is within = rw is
fill_marked byte (suc place) (mark ∷ marks) (old ∷ bytes) is within = fill_marked byte place marks bytes is (omega arith)

-- what a crash leaves of a disk at rest on which these bytes were written then
pub kept_torn : (at : ℕ) (from bytes : List ℕ) (keep : Keep) → at ≤ length bytes → TornFrom at (length from) bytes (kept keep (after_write at from (at_rest bytes)))
kept_torn at from bytes All le = record {
  no_shorter = omega (arith, length-over at from bytes le);
  no_longer = omega (arith, length-over at from bytes le);
  before = take-over at from bytes le;
  behind = λ place ge lt. over_behind at from bytes le place 0 ge;
}
kept_torn at from bytes Nothing le = record { no_shorter = omega arith; no_longer = omega arith; before = refl; behind = λ place ge lt. refl }
kept_torn at from bytes (Byte byte) le =
    let marks : List Bool = over at (replicate (length from) true) (replicate (length bytes) false) in
    let left : List ℕ = fill_written byte marks (over at from bytes) in
    let size : length left ≡ length (over at from bytes) = length-fill_written byte marks (over at from bytes) in
    record {
      no_shorter = omega (arith, size, length-over at from bytes le);
      no_longer = omega (arith, size, length-over at from bytes le);
      before = same_front at left bytes (omega (arith, size, length-over at from bytes le)) le
          (λ place lt. fill_kept byte place marks (over at from bytes) (unmarked_before at (length from) bytes le marks (inr refl) place lt) ∙ over_before at from bytes le place 0 lt);
      behind = λ place ge lt. fill_kept byte place marks (over at from bytes) (unmarked_behind at (length from) bytes le marks (inr refl) place ge lt) ∙ over_behind at from bytes le place 0 ge;
    }
