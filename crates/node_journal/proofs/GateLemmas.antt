-- What is read at a gate.
use Rattle.std.proofs.Common.{◌≡◌, ℕ, suc, ◌+◌, ◌<◌, List, [], ◌∷◌, length, take, drop, get_or, Option, Some, None, IfSome, refl, sym, ◌∙◌, ap, arith}
use Rattle.std.specs.Option.{ForSome}
use Rattle.std.proofs.lemmas.Nat.{be_bytes_4}
use Rattle.std.proofs.lemmas.List.{length-take, get_or-take, get_or-drop, take_all, take-take, drop-drop, drop-take}
use Rattle.disk_store.specs.Disk.{DiskState, GivesBytes}
use Rattle.node_journal.specs.Frames.{length_bytes, length_from}
use Rattle.node_journal.specs.Gates.{HasLength, GateIs}
use Rattle.node_journal.specs.declared.gate.Gate.{Gate}
use Rattle.node_journal.specs.declared.gate.Gate.TheVariants.{Closed, Cut, Length}

spelled_again : (a b c d size : ℕ) → ((i : ℕ) → get_or (a ∷ b ∷ c ∷ d ∷ []) i 0 < 256) → size ≡ length_from (a ∷ b ∷ c ∷ d ∷ []) → length_bytes size ≡ a ∷ b ∷ c ∷ d ∷ []
unfolding length_bytes length_from
spelled_again a b c d size small is = be_bytes_4 (a ∷ b ∷ c ∷ d ∷ []) size refl small is

-- five bytes that begin with an open gate
pub gate_length : (bytes : List ℕ) (size : ℕ) → length bytes ≡ 5 → ((i : ℕ) → get_or bytes i 0 < 256) → get_or bytes 0 0 ≡ 1
    → size ≡ length_from (get_or bytes 1 0 ∷ get_or bytes 2 0 ∷ get_or bytes 3 0 ∷ get_or bytes 4 0 ∷ []) → HasLength bytes 0 size
gate_length [] size five small is_open is = absurd (omega arith)
gate_length (g ∷ []) size five small is_open is = absurd (omega arith)
gate_length (g ∷ a ∷ []) size five small is_open is = absurd (omega arith)
gate_length (g ∷ a ∷ b ∷ []) size five small is_open is = absurd (omega arith)
gate_length (g ∷ a ∷ b ∷ c ∷ []) size five small is_open is = absurd (omega arith)
gate_length (g ∷ a ∷ b ∷ c ∷ d ∷ e ∷ rest) size five small is_open is = absurd (omega arith)
gate_length (g ∷ a ∷ b ∷ c ∷ d ∷ []) size five small is_open is =
    let four : length_bytes size ≡ a ∷ b ∷ c ∷ d ∷ [] = spelled_again a b c d size (λ i. small (suc i)) is in
    record {
      within = omega arith;
      spelled = ap (λ (n : ℕ). n ∷ a ∷ b ∷ c ∷ d ∷ []) is_open ∙ ap (λ (l : List ℕ). 1 ∷ l) (sym four);
      size_is = is;
    }

module _ (bytes into : List ℕ) (gate count : ℕ) (within : gate < length bytes) (gives : GivesBytes bytes gate into count) (five : length into ≡ 5) where
  abbrev part : List ℕ
  part = take count into

  size_part : length part ≡ count
  size_part = omega (arith, length-take count into, gives.counted)

  first : get_or part 0 0 ≡ get_or bytes gate 0
  first =
      let some : 0 < count = omega (arith, gives.counted) in
      let same : gate + 0 ≡ gate = omega arith in
      ap (λ (l : List ℕ). get_or l 0 0) gives.given ∙ get_or-take count (drop gate bytes) 0 0 some ∙ get_or-drop gate bytes 0 0 ∙ ap (λ (n : ℕ). get_or bytes n 0) same

  -- what the part that was read shows holds of the whole
  gate_at : (found : Gate) → GateIs part 0 found → GateIs bytes gate found
  gate_at Closed closed = λ is_open. closed (first ∙ is_open)
  gate_at Cut cut = (sym first ∙ cut.0, omega (arith, cut.1, size_part, gives.counted))
  gate_at (Length size) has =
      let all : count ≡ 5 = omega (arith, has.within, size_part, gives.counted, five) in
      let part_is : part ≡ take 5 (drop gate bytes) = gives.given ∙ ap (λ (n : ℕ). take n (drop gate bytes)) all in
      let rest : take 4 (drop 1 part) ≡ take 4 (drop (gate + 1) bytes) =
      ap (λ (l : List ℕ). take 4 (drop 1 l)) part_is ∙ ap (take 4) (drop-take 1 4 (drop gate bytes)) ∙ take-take 4 4 (drop 1 (drop gate bytes)) (omega arith)
      ∙ ap (take 4) (drop-drop 1 gate bytes) in
      record {
        within = omega (arith, all, gives.counted);
        spelled = sym part_is ∙ sym (take_all 5 part (omega (arith, size_part))) ∙ has.spelled;
        size_is = has.size_is ∙ ap length_from rest;
      }

-- the same, of a disk that may tell its contents
pub gate_read : (state : Option DiskState) (into : List ℕ) (gate count : ℕ) (found : Gate) → ForSome state (λ disk. gate < length disk.bytes) → IfSome state (λ disk. GivesBytes disk.bytes gate into count)
    → length into ≡ 5 → GateIs (take count into) 0 found → IfSome state (λ disk. GateIs disk.bytes gate found)
gate_read None into gate count found within gives five is = tt
gate_read (Some disk) into gate count found within gives five is = gate_at disk.bytes into gate count (within disk refl) gives five found is
