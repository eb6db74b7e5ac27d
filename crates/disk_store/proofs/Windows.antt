-- The places outside of which a disk in memory is as it was synced.
use Rattle.std.proofs.Common.{◌≡◌, ◌⊎◌, inl, inr, ℕ, ◌+◌, ◌-◌, ◌<◌, ◌≤◌, min, max, Bool, true, false, List, length, take, drop, replicate, get_or, refl, sym, ◌∙◌, ap, arith, length-drop}
use Rattle.std.proofs.lemmas.List.{ext_get_or, get_or-replicate, get_or-take, get_or-drop, length-take-le, length-replicate}
use Rattle.std.proofs.lemmas.Bool.{cases_lt}
use Rattle.std.proofs.lemmas.Bool.Decides.{eqb_tells}
use Rattle.disk_store.specs.Disk.{DiskState, IsImage, at_rest, over, after_write}
use Rattle.disk_store.specs.Places.{IsWindow, HasRoom, widened}
use Rattle.disk_store.specs.Records.{ReadsAs}
use Rattle.disk_store.specs.declared.window.Window.{Window}
use Rattle.disk_store.proofs.Records.{reads_write}
use Rattle.disk_store.specs.Laws.Over.{length-over, over_before, over_within, over_behind}

-- nothing was written
pub empty_window : (disk : DiskState) (window : Window) → disk.synced ≡ disk.bytes → disk.written ≡ replicate (length disk.bytes) false → window.low ≡ 0 → window.high ≡ 0
    → IsWindow disk window
empty_window disk window synced written low high = record {
  ordered = omega arith;
  within = omega arith;
  begun = omega arith;
  reached = omega (arith, ap length synced);
  clean = λ place inside _.
      let size : length disk.written ≡ length disk.bytes = ap length written ∙ length-replicate (length disk.bytes) false in
      ap (λ (marks : List Bool). get_or marks place true) written ∙ get_or-replicate (length disk.bytes) place false true (omega arith);
}

module _ (disk : DiskState) (window : Window) (image : IsImage disk disk.bytes) (marked : length disk.written ≡ length disk.bytes) (is : IsWindow disk window) where
  abbrev size : ℕ
  size = window.high - window.low

  -- the bytes of the window
  abbrev inner : List ℕ
  inner = take size (drop window.low disk.bytes)

  inner_size : length inner ≡ size
  inner_size = length-take-le size (drop window.low disk.bytes) (omega (arith, is.ordered, is.within, length-drop window.low disk.bytes))

  -- a place outside of the window reads as it was synced
  agreed : (place : ℕ) → place < length disk.bytes → (place < window.low) ⊎ (window.high ≤ place) → get_or disk.synced place 0 ≡ get_or disk.bytes place 0
  agreed place inside outside =
      let held : place < length disk.synced = elim outside [ inl before ↦ omega (arith, is.begun) | inr behind ↦ omega (arith, is.reached) ] in
      sym (image.unwritten place held (is.clean place (omega arith) outside))

  -- once the bytes of the window are put over those synced, they are all that is read
  pub synced_window : over window.low inner disk.synced ≡ disk.bytes
  synced_window = ext_get_or 0 (over window.low inner disk.synced) disk.bytes sizes each
    where
      sizes : length (over window.low inner disk.synced) ≡ length disk.bytes
      sizes = omega (arith, length-over window.low inner disk.synced is.begun, inner_size, is.ordered, is.within, is.reached, image.no_shorter)

      within : (place : ℕ) → window.low ≤ place → place < window.high → get_or inner (place - window.low) 0 ≡ get_or disk.bytes place 0
      within place ge lt =
          let there : window.low + (place - window.low) ≡ place = omega arith in
          get_or-take size (drop window.low disk.bytes) (place - window.low) 0 (omega arith)
          ∙ get_or-drop window.low disk.bytes (place - window.low) 0 ∙ ap (λ (n : ℕ). get_or disk.bytes n 0) there

      each : (place : ℕ) → place < length (over window.low inner disk.synced) → get_or (over window.low inner disk.synced) place 0 ≡ get_or disk.bytes place 0
      each place inside = elim (cases_lt place window.low) [
        | inl before ↦ over_before window.low inner disk.synced is.begun place 0 before ∙ agreed place (omega (arith, sizes)) (inl before)
        | inr past ↦ elim (cases_lt place window.high) [
          | inl lt ↦ over_within window.low inner disk.synced is.begun place 0 past (omega (arith, inner_size)) ∙ within place past lt
          | inr behind ↦ over_behind window.low inner disk.synced is.begun place 0 (omega (arith, inner_size, is.ordered)) ∙ agreed place (omega (arith, sizes)) (inr behind)
        ]
      ]

  -- once the marks of the window are taken away, none is left
  pub clean_window : over window.low (replicate size false) disk.written ≡ replicate (length disk.bytes) false
  clean_window = ext_get_or true (over window.low (replicate size false) disk.written) (replicate (length disk.bytes) false) (sizes ∙ sym (length-replicate (length disk.bytes) false)) each
    where
      le : window.low ≤ length disk.written
      le = omega (arith, is.begun, image.no_shorter, marked)

      none_size : length (replicate size false) ≡ size
      none_size = length-replicate size false

      sizes : length (over window.low (replicate size false) disk.written) ≡ length disk.bytes
      sizes = omega (arith, length-over window.low (replicate size false) disk.written le, none_size, is.ordered, is.within, marked)

      each : (place : ℕ) → place < length (over window.low (replicate size false) disk.written)
          → get_or (over window.low (replicate size false) disk.written) place true ≡ get_or (replicate (length disk.bytes) false) place true
      each place inside = elim (cases_lt place window.low) [
        | inl before ↦ over_before window.low (replicate size false) disk.written le place true before ∙ is.clean place (omega (arith, sizes)) (inl before) ∙ sym (unmarked place (omega (arith, sizes)))
        | inr past ↦ elim (cases_lt place window.high) [
          | inl lt ↦ over_within window.low (replicate size false) disk.written le place true past (omega (arith, none_size))
              ∙ get_or-replicate size (place - window.low) false true (omega arith) ∙ sym (unmarked place (omega (arith, sizes)))
          | inr behind ↦ over_behind window.low (replicate size false) disk.written le place true (omega (arith, none_size, is.ordered)) ∙ is.clean place (omega (arith, sizes)) (inr behind) ∙ sym (unmarked place (omega (arith, sizes)))
        ]
      ]
        where
          unmarked : (n : ℕ) → n < length disk.bytes → get_or (replicate (length disk.bytes) false) n true ≡ false
          unmarked n lt = get_or-replicate (length disk.bytes) n false true lt

  -- a window round the range of a write, outside of which nothing was written before
  wider : (next : Window) (at : ℕ) (from : List ℕ) → at ≤ length disk.bytes → next.low ≤ at → at + length from ≤ next.high
      → next.high ≤ max (length disk.bytes) (at + length from) → next.low ≤ length disk.synced → length disk.bytes ≤ max (length disk.synced) next.high
      → ((place : ℕ) → (place < next.low) ⊎ (next.high ≤ place) → (place < window.low) ⊎ (window.high ≤ place))
      → IsWindow (after_write at from disk) next
  wider next at from place low high within begun reached outside = record {
    ordered = omega arith;
    within = omega (arith, length-over at from disk.bytes place, within);
    begun = begun;
    reached = omega (arith, length-over at from disk.bytes place, reached, high);
    clean = clean_there;
  }
    where
      le : at ≤ length disk.written
      le = omega (arith, marked, place)

      marks_size : length (replicate (length from) true) ≡ length from
      marks_size = length-replicate (length from) true

      clean_there : (n : ℕ) → n < length (over at (replicate (length from) true) disk.written) → (n < next.low) ⊎ (next.high ≤ n)
          → get_or (over at (replicate (length from) true) disk.written) n true ≡ false
      clean_there n inside there = elim there [
        | inl before ↦ over_before at (replicate (length from) true) disk.written le n true (omega (arith, before, low)) ∙ is.clean n (omega (arith, before, low, le)) (outside n (inl before))
        | inr behind ↦ over_behind at (replicate (length from) true) disk.written le n true (omega (arith, marks_size, behind, high))
            ∙ is.clean n (omega (arith, inside, behind, high, marks_size, length-over at (replicate (length from) true) disk.written le)) (outside n (inr behind))
      ]

  -- a write widens the window over its range
  pub wider_window : (at : ℕ) (from : List ℕ) → at ≤ length disk.bytes → IsWindow (after_write at from disk) (widened at (at + length from) window)
  wider_window at from place = elim (eqb_tells window.low window.high) [
    | inl empty ↦ rw empty.0 (wider (record { low = at; high = at + length from }) at from place (omega arith) (omega arith) (omega arith)
        (omega (arith, place, is.begun, is.reached, empty.1)) (omega (arith, is.begun, is.reached, empty.1))
        (λ n _. elim (cases_lt n window.low) [ inl before ↦ inl before | inr behind ↦ inr (omega (arith, behind, empty.1)) ]))
    | inr some ↦ rw some.0 (wider (record { low = min window.low at; high = max window.high (at + length from) }) at from place (omega arith) (omega arith)
        (omega (arith, is.within)) (omega (arith, is.begun)) (omega (arith, is.reached))
        (λ n there. elim there [ inl before ↦ inl (omega (arith, before)) | inr behind ↦ inr (omega (arith, behind)) ]))
  ]

  -- what a sync makes of the window leaves nothing pending
  pub rested : (bytes synced : List ℕ) (written : List Bool) → bytes ≡ disk.bytes → synced ≡ over window.low (take size (drop window.low bytes)) disk.synced
      → written ≡ over window.low (replicate size false) disk.written → record { bytes = disk.bytes; synced = synced; written = written } ≡ at_rest disk.bytes
  rested bytes synced written same put unmarked =
      let all : synced ≡ disk.bytes = put ∙ ap (λ (l : List ℕ). over window.low (take size (drop window.low l)) disk.synced) same ∙ synced_window in
      let none : written ≡ replicate (length disk.bytes) false = unmarked ∙ clean_window in
      let of : List ℕ → DiskState = λ l. record { bytes = disk.bytes; synced = l; written = written } in
      let of_marks : List Bool → DiskState = λ l. record { bytes = disk.bytes; synced = disk.bytes; written = l } in
      ap of all ∙ ap of_marks none

-- a disk with nothing pending has room as before
pub rest_room : (bytes : List ℕ) (window : Window) (room b s w : ℕ) → window.low ≡ 0 → window.high ≡ 0 → length bytes ≤ room → room ≤ b → room ≤ s → room ≤ w
    → HasRoom (at_rest bytes) window room b s w
rest_room bytes window room b s w low high fits in_bytes in_synced in_written = record {
  image = record {
    no_shorter = omega arith;
    no_longer = omega (arith, length-replicate (length bytes) false);
    unwritten = λ place _ _. refl;
  };
  marked = length-replicate (length bytes) false;
  changed = empty_window (at_rest bytes) window refl refl low high;
  fits = fits;
  bytes_fit = in_bytes;
  synced_fit = in_synced;
  written_fit = in_written;
}

-- a disk has room as before once it was written within its room
pub written_room : (disk : DiskState) (window : Window) (room b s w b' w' at : ℕ) (from : List ℕ) → HasRoom disk window room b s w → at ≤ length disk.bytes → at + length from ≤ room → b ≤ b' → w ≤ w'
    → HasRoom (after_write at from disk) (widened at (at + length from) window) room b' s w'
written_room disk window room b s w b' w' at from has place fits more_bytes more_marks =
    let reads : ReadsAs disk disk.bytes = record { reads = refl; marked = has.marked; image = has.image } in
    let after : ReadsAs (after_write at from disk) (over at from disk.bytes) = reads_write disk disk.bytes reads at from place in
    record {
      image = after.image;
      marked = after.marked;
      changed = wider_window disk window has.image has.marked has.changed at from place;
      fits = omega (arith, length-over at from disk.bytes place, has.fits, fits);
      bytes_fit = omega (arith, has.bytes_fit, more_bytes);
      synced_fit = has.synced_fit;
      written_fit = omega (arith, has.written_fit, more_marks);
    }
