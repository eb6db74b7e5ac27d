use Rattle.std.proofs.Common.{◌≡◌, ◌-◌, ◌≤◌, List, ◌∷◌, length, get_or, take, drop, arith}
use Rattle.std.proofs.lemmas.Grind.{common_steps}

-- a list with a first element is that element and the rest, as a pattern of a slice reads it
pub first_and_rest : {X : Type 0} → (xs : List X) (x : X) (rest : List X) → 1 ≤ length xs → x ≡ get_or xs 0 x
    → rest ≡ take (length xs - 1) (drop 1 xs) → xs ≡ x ∷ rest
first_and_rest xs x rest some first others = grind (arith, common_steps)
