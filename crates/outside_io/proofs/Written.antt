-- What a loop of writes has written so far.
use Rattle.std.proofs.Common.{◌≡◌, ℕ, List, [], ◌∷◌, ◌++◌, Bool, false, ◌==◌, length, Option, take, drop, refl, sym, ap, subst, ◌∙◌, append_assoc, append-nil, take-append-drop}
use Rattle.std.specs.Io.KnownBytes.{Appends, Keeps}
use Rattle.std.proofs.KnownBytes.{Appends-trans, Appends-nil, Appends-kept}
use Rattle.outside_io.specs.Whole.{HasWritten}

-- nothing is written yet
pub written_none : (taken : Option (List ℕ)) (text : List ℕ) → HasWritten taken taken text text
written_none taken text = record { front = []; whole = refl; written = Appends-nil taken }

-- the sink took n bytes more
pub written_more : (old mid new : Option (List ℕ)) (text rest : List ℕ) (n : ℕ) → HasWritten old mid text rest → Appends mid new (take n rest) → HasWritten old new text (drop n rest)
written_more old mid new text rest n so_far more = record {
  front = so_far.front ++ take n rest;
  whole = so_far.whole ∙ ap (λ xs. so_far.front ++ xs) (sym (take-append-drop n rest)) ∙ sym (append_assoc so_far.front (take n rest) (drop n rest));
  written = Appends-trans old mid new so_far.front (take n rest) so_far.written more;
}

-- a write that failed took nothing
pub written_kept : (old mid new : Option (List ℕ)) (text rest : List ℕ) → HasWritten old mid text rest → Keeps mid new → HasWritten old new text rest
written_kept old mid new text rest so_far kept = record {
  front = so_far.front;
  whole = so_far.whole;
  written = Appends-kept old mid new so_far.front so_far.written kept;
}

-- where nothing is left, the whole text was written
pub written_all : (old new : Option (List ℕ)) (text rest : List ℕ) → HasWritten old new text rest → rest ≡ [] → Appends old new text
written_all old new text rest so_far none =
    let P : List ℕ → Type 0 = Appends old new in
    let all : text ≡ so_far.front = so_far.whole ∙ ap (λ xs. so_far.front ++ xs) none ∙ append-nil so_far.front in
    subst P (sym all) so_far.written

-- an empty rest does not pass the test that there is more
pub not_empty : (rest : List ℕ) (answer : Bool) → rest ≡ [] → answer ≡ (length rest == 0) → answer ≡ false → ⊥
not_empty [] answer none tested more = cc (tested, more)
not_empty (x ∷ xs) answer none tested more = cc none
