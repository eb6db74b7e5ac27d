-- A reading: what a text says, or the first of its rules that it breaks.
use Rattle.std.specs.Prelude.{◌≡◌, ◌⊎◌, Bool, true, false, Option, Some, None, Result, Ok, Err}

infixl 10 ◌>>=◌
-- one reading after another, up to the first refusal
abbrev pub ◌>>=◌ : {A B E : Type 0} → Result A E → (A → Result B E) → Result B E
(Ok x) >>= f = f x
(Err e) >>= f = Err e

-- what is there, or else the refusal
abbrev pub required : {A E : Type 0} → E → Option A → Result A E
required e (Some x) = Ok x
required e None = Err e

-- nothing where the test holds, or else the refusal
abbrev pub demand : {E : Type 0} → E → Bool → Result (Unit {0}) E
demand e true = Ok tt
demand e false = Err e

-- A call returned what the reading gives, unless memory ran out, for which one refusal stands.
abbrev pub Gives : {A E : Type 0} → E → Result A E → Result A E → Type 0
Gives memory (Ok x) reading = reading ≡ Ok x
Gives memory (Err e) reading = (e ≡ memory) ⊎ (reading ≡ Err e)

-- The same of what a call returned as seen by view.
abbrev pub GivesAs : {X A E : Type 0} → (X → A) → E → Result X E → Result A E → Type 0
GivesAs seen memory (Ok x) reading = reading ≡ Ok (seen x)
GivesAs seen memory (Err e) reading = (e ≡ memory) ⊎ (reading ≡ Err e)
