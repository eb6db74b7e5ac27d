-- A number in decimal has digits alone.
use Rattle.std.proofs.Common.{◌≡◌, ℕ, ◌+◌, ◌%◌, ◌/◌, ◌^◌, ◌<◌, ◌≤◌, List, [], ◌∷◌, ◌++◌, arith}
use Rattle.std.specs.Prelude.{decimal}
use Rattle.std.specs.List.{All}
use Rattle.std.proofs.lemmas.Fmt.{decimal_by_steps}
use Rattle.std.proofs.lemmas.List.Elements.{All-cons, All-nil, All-push}

abbrev pub IsDigit : ℕ → Type 0
IsDigit b = (48 ≤ b) × (b ≤ 57)

pub digits_alone : (n : ℕ) → n < 2 ^ 64 → All IsDigit (decimal n)
digits_alone n small =
    decimal_by_steps (λ m ds. All IsDigit ds)
    (λ m low. All-cons IsDigit (48 + m) [] (omega arith, omega arith) (All-nil IsDigit))
    (λ m ds high digits. All-push IsDigit ds (48 + m % 10) digits (omega arith, omega arith))
    n small
