-- The equations of `over`, of lists of any items.
use Rattle.std.proofs.Common.{◌≡◌, ℕ, ◌+◌, ◌-◌, ◌<◌, ◌≤◌, max, List, ◌++◌, length, take, drop, get_or, ◌∙◌, ap, arith, append_assoc, length-append, length-drop}
use Rattle.std.proofs.lemmas.List.{length-take-le, take_at, drop_at, get_or-append_right, get_or_append_left, get_or-take, get_or-drop}
use Rattle.disk_store.specs.Disk.{over}

-- the front that is replaced up to its end
pub front-over : {X : Type 0} (at : ℕ) (ys xs : List X) → at ≤ length xs → length (take at xs ++ ys) ≡ at + length ys
front-over at ys xs le = omega (arith, length-append (take at xs) ys, length-take-le at xs le)

pub length-over : {X : Type 0} (at : ℕ) (ys xs : List X) → at ≤ length xs → length (over at ys xs) ≡ max (length xs) (at + length ys)
length-over at ys xs le = omega (arith, length-append (take at xs ++ ys) (drop (at + length ys) xs), front-over at ys xs le, length-drop (at + length ys) xs)

pub take-over : {X : Type 0} (at : ℕ) (ys xs : List X) → at ≤ length xs → take at (over at ys xs) ≡ take at xs
take-over at ys xs le = ap (λ l. take at l) (append_assoc (take at xs) ys (drop (at + length ys) xs)) ∙ take_at (take at xs) (ys ++ drop (at + length ys) xs) at (length-take-le at xs le)

pub drop-over : {X : Type 0} (at : ℕ) (ys xs : List X) → at ≤ length xs → drop (at + length ys) (over at ys xs) ≡ drop (at + length ys) xs
drop-over at ys xs le = drop_at (take at xs ++ ys) (drop (at + length ys) xs) (at + length ys) (front-over at ys xs le)

-- the items before, within and behind the range that is replaced
module _ {X : Type 0} (at : ℕ) (ys xs : List X) (le : at ≤ length xs) (place : ℕ) (d : X) where
  pub over_before : place < at → get_or (over at ys xs) place d ≡ get_or xs place d
  over_before lt =
      get_or_append_left (take at xs ++ ys) (drop (at + length ys) xs) d place (omega (arith, front-over at ys xs le))
      ∙ get_or_append_left (take at xs) ys d place (omega (arith, length-take-le at xs le)) ∙ get_or-take at xs place d lt

  pub over_within : at ≤ place → place < at + length ys → get_or (over at ys xs) place d ≡ get_or ys (place - at) d
  over_within ge lt =
      get_or_append_left (take at xs ++ ys) (drop (at + length ys) xs) d place (omega (arith, front-over at ys xs le))
      ∙ get_or-append_right (take at xs) ys at place d (length-take-le at xs le) ge

  pub over_behind : at + length ys ≤ place → get_or (over at ys xs) place d ≡ get_or xs place d
  over_behind ge =
      let back : at + length ys + (place - (at + length ys)) ≡ place = omega arith in
      get_or-append_right (take at xs ++ ys) (drop (at + length ys) xs) (at + length ys) place d (front-over at ys xs le) ge
      ∙ get_or-drop (at + length ys) xs (place - (at + length ys)) d ∙ ap (λ (n : ℕ). get_or xs n d) back
