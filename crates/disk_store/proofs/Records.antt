-- A record with one change more.
use Rattle.std.proofs.Common.{◌≡◌, ℕ, ◌+◌, ◌-◌, ◌<◌, ◌≤◌, inl, inr, subst, Bool, true, false, List, [], ◌∷◌, ◌++◌, length, take, drop, replicate, get_or, refl, sym, ◌∙◌, ap, arith, length-drop}
use Rattle.std.proofs.lemmas.List.{take-append-le, drop-append-le, take_all, length-replicate, get_or-replicate}
use Rattle.disk_store.specs.Disk.{DiskState, IsImage, over, after_write, after_sync}
use Rattle.disk_store.specs.Records.{disk_after, disks_before, bytes_written, ReadsAs}
use Rattle.disk_store.specs.declared.history.Step.{Step}
use Rattle.disk_store.specs.declared.history.Step.TheVariants.{Write, Sync}
use Rattle.disk_store.specs.Laws.Over.{length-over, over_before, over_within, over_behind}
use Rattle.std.proofs.lemmas.Bool.{cases_lt}

-- the bytes of the first write stand before those of the change that is added
first_bytes : (size : ℕ) (steps : List Step) (pool from : List ℕ) → length pool ≡ size + bytes_written steps → take size (pool ++ from) ≡ take size pool
first_bytes size steps pool from whole = take-append-le size pool from (omega arith)

rest_bytes : (size : ℕ) (steps : List Step) (pool from : List ℕ) → length pool ≡ size + bytes_written steps → drop size (pool ++ from) ≡ drop size pool ++ from
rest_bytes size steps pool from whole = drop-append-le size pool from (omega arith)

-- a write more
pub after_one_write : (disk : DiskState) (steps : List Step) (pool : List ℕ) (at : ℕ) (from : List ℕ) → length pool ≡ bytes_written steps
    → disk_after disk (steps ++ Write at (length from) ∷ []) (pool ++ from) ≡ after_write at from (disk_after disk steps pool)
after_one_write disk [] [] at from whole = ap (λ (bytes : List ℕ). after_write at bytes disk) (take_all (length from) from (omega arith))
after_one_write disk [] (byte ∷ pool) at from whole = absurd (omega arith)
after_one_write disk (Sync ∷ steps) pool at from whole = after_one_write (after_sync disk) steps pool at from whole
after_one_write disk (Write place size ∷ steps) pool at from whole =
    let left : length (drop size pool) ≡ bytes_written steps = omega (arith, length-drop size pool) in
    ap (λ (bytes : List ℕ). disk_after (after_write place bytes disk) (steps ++ Write at (length from) ∷ []) (drop size (pool ++ from))) (first_bytes size steps pool from whole)
    ∙ ap (λ (bytes : List ℕ). disk_after (after_write place (take size pool) disk) (steps ++ Write at (length from) ∷ []) bytes) (rest_bytes size steps pool from whole)
    ∙ after_one_write (after_write place (take size pool) disk) steps (drop size pool) at from left

-- a sync more
pub after_one_sync : (disk : DiskState) (steps : List Step) (pool : List ℕ) → disk_after disk (steps ++ Sync ∷ []) pool ≡ after_sync (disk_after disk steps pool)
after_one_sync disk [] pool = refl
after_one_sync disk (Sync ∷ steps) pool = after_one_sync (after_sync disk) steps pool
after_one_sync disk (Write place size ∷ steps) pool = after_one_sync (after_write place (take size pool) disk) steps (drop size pool)

-- the disk as it was joins the past
pub before_one_write : (disk : DiskState) (steps : List Step) (pool : List ℕ) (at : ℕ) (from : List ℕ) → length pool ≡ bytes_written steps
    → disks_before disk (steps ++ Write at (length from) ∷ []) (pool ++ from) ≡ disks_before disk steps pool ++ disk_after disk steps pool ∷ []
before_one_write disk [] pool at from whole = refl
before_one_write disk (Sync ∷ steps) pool at from whole = ap (λ (past : List DiskState). disk ∷ past) (before_one_write (after_sync disk) steps pool at from whole)
before_one_write disk (Write place size ∷ steps) pool at from whole =
    let left : length (drop size pool) ≡ bytes_written steps = omega (arith, length-drop size pool) in
    ap (λ (bytes : List ℕ). disk ∷ disks_before (after_write place bytes disk) (steps ++ Write at (length from) ∷ []) (drop size (pool ++ from))) (first_bytes size steps pool from whole)
    ∙ ap (λ (bytes : List ℕ). disk ∷ disks_before (after_write place (take size pool) disk) (steps ++ Write at (length from) ∷ []) bytes) (rest_bytes size steps pool from whole)
    ∙ ap (λ (past : List DiskState). disk ∷ past) (before_one_write (after_write place (take size pool) disk) steps (drop size pool) at from left)

pub before_one_sync : (disk : DiskState) (steps : List Step) (pool : List ℕ) → disks_before disk (steps ++ Sync ∷ []) pool ≡ disks_before disk steps pool ++ disk_after disk steps pool ∷ []
before_one_sync disk [] pool = refl
before_one_sync disk (Sync ∷ steps) pool = ap (λ (past : List DiskState). disk ∷ past) (before_one_sync (after_sync disk) steps pool)
before_one_sync disk (Write place size ∷ steps) pool = ap (λ (past : List DiskState). disk ∷ past) (before_one_sync (after_write place (take size pool) disk) steps (drop size pool))

-- so many bytes more were written
pub written_more : (steps : List Step) (at size : ℕ) → bytes_written (steps ++ Write at size ∷ []) ≡ bytes_written steps + size
written_more [] at size = omega arith
written_more (Sync ∷ steps) at size = written_more steps at size
written_more (Write place size' ∷ steps) at size = omega (arith, written_more steps at size)

pub written_same : (steps : List Step) → bytes_written (steps ++ Sync ∷ []) ≡ bytes_written steps
written_same [] = refl
written_same (Sync ∷ steps) = written_same steps
written_same (Write place size ∷ steps) = ap (λ (n : ℕ). size + n) (written_same steps)

-- the marks of a range of so many bytes
abbrev marks_of : List ℕ → List Bool
marks_of from = replicate (length from) true

module _ (disk : DiskState) (bytes : List ℕ) (reads : ReadsAs disk bytes) where
  le_marks : (at : ℕ) → at ≤ length bytes → at ≤ length disk.written
  le_marks at le = omega (arith, reads.marked)

  size : (from : List ℕ) → length (marks_of from) ≡ length from
  size from = length-replicate (length from) true

  marked_there : (at : ℕ) (from : List ℕ) (place : ℕ) → at ≤ length bytes → at ≤ place → place < at + length from → get_or (over at (marks_of from) disk.written) place true ≡ false → ⊥
  marked_there at from place le past inside is =
      let there : get_or (over at (marks_of from) disk.written) place true ≡ true =
      over_within at (marks_of from) disk.written (le_marks at le) place true past (omega (arith, size from)) ∙ get_or-replicate (length from) (place - at) true true (omega arith) in
      let clash : true ≡ false = sym there ∙ is in
      cc

  -- a place that a write leaves unmarked was not marked before, and keeps its byte
  unmarked : (at : ℕ) (from : List ℕ) (place : ℕ) → at ≤ length bytes → place < length bytes
      → get_or (over at (replicate (length from) true) disk.written) place true ≡ false
      → (get_or disk.written place true ≡ false) × (get_or (over at from bytes) place 0 ≡ get_or bytes place 0)
  unmarked at from place le within is = elim (cases_lt place at) [
    | inl before ↦ (sym (over_before at (marks_of from) disk.written (le_marks at le) place true before) ∙ is, over_before at from bytes le place 0 before)
    | inr past ↦ elim (cases_lt place (at + length from)) [
      | inl inside ↦ absurd (marked_there at from place le past inside is)
      | inr behind ↦ (sym (over_behind at (marks_of from) disk.written (le_marks at le) place true (omega (arith, size from))) ∙ is, over_behind at from bytes le place 0 behind)
    ]
  ]

  pub reads_write : (at : ℕ) (from : List ℕ) → at ≤ length bytes → ReadsAs (after_write at from disk) (over at from bytes)
  reads_write at from le = record {
    reads = ap (λ l. over at from l) reads.reads;
    marked = omega (arith, reads.marked, length-over at from bytes le, length-over at (replicate (length from) true) disk.written (omega (arith, reads.marked)), length-replicate (length from) true);
    image = record {
      no_shorter = omega (arith, reads.image.no_shorter, length-over at from bytes le);
      no_longer = omega (arith, reads.marked, length-over at from bytes le, length-over at (replicate (length from) true) disk.written (omega (arith, reads.marked)), length-replicate (length from) true);
      unwritten = λ place within is.
          let same = unmarked at from place le (omega (arith, reads.image.no_shorter)) is in
          same.1 ∙ reads.image.unwritten place within same.0;
    };
  }

  pub reads_sync : ReadsAs (after_sync disk) bytes
  reads_sync = record {
    reads = reads.reads;
    marked = omega (arith, length-replicate (length disk.bytes) false, ap length reads.reads);
    image = record {
      no_shorter = omega (arith, ap length reads.reads);
      no_longer = omega (arith, length-replicate (length disk.bytes) false, ap length reads.reads);
      unwritten = λ place within is. ap (λ l. get_or l place 0) (sym reads.reads);
    };
  }

  pub reads_image : IsImage disk disk.bytes
  reads_image = subst (λ (image : List ℕ). IsImage disk image) (sym reads.reads) reads.image
