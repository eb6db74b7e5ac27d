-- Names, keys and values from numbers keep their limits.
use Rattle.std.proofs.Common.{◌≡◌, ℕ, ◌+◌, ◌^◌, ◌<◌, ◌≤◌, List, [], ◌∷◌, ◌++◌, length, arith}
use Rattle.std.specs.Prelude.{codes, decimal}
use Rattle.std.specs.List.{All}
use Rattle.std.proofs.lemmas.Fmt.{length-decimal-le}
use Rattle.std.proofs.lemmas.List.Elements.{All-cons, All-weaker}
use Rattle.helios_model.specs.Texts.{IsKey, IsKeyByte, IsName, IsNameByte, IsValue}
use Rattle.sample_schedules.specs.Generator.{key_name, site_name}
use Rattle.sample_schedules.proofs.Digits.{IsDigit, digits_alone}

-- the name of a site below 100
pub short_name : (i : ℕ) → i < 100 → IsName (site_name i)
short_name i small =
    let two : length (decimal i) ≤ 2 = length-decimal-le 2 i (omega arith) (omega arith) (omega arith) in
    record {
      some = omega arith;
      most = omega arith;
      printable = All-cons IsNameByte 115 (decimal i) (omega arith, omega arith) (All-weaker IsDigit IsNameByte (λ b digit. (omega arith, omega arith)) (decimal i) (digits_alone i (omega arith)));
    }

-- a key that is the letter k and a number below 50
pub short_key : (number : ℕ) → number < 50 → IsKey (key_name number)
short_key number small =
    let two : length (decimal number) ≤ 2 = length-decimal-le 2 number (omega arith) (omega arith) (omega arith) in
    record {
      some = omega arith;
      most = omega arith;
      printable = All-cons IsKeyByte 107 (decimal number) (omega arith, omega arith, λ is. omega arith) (All-weaker IsDigit IsKeyByte (λ b digit. (omega arith, omega arith, λ is. omega arith)) (decimal number) (digits_alone number (omega arith)));
    }

-- a number in decimal is a stored value
pub short_value : (number : ℕ) → number < 2 ^ 64 → IsValue (decimal number)
short_value number small =
    let twenty : length (decimal number) ≤ 20 = length-decimal-le 20 number (omega arith) (omega arith) small in
    omega arith
