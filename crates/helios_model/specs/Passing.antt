-- What the searches for a first place say, and that a matrix passes each of them.
use Rattle.std.specs.Prelude.{◌≡◌, ℕ, ◌<◌, Bool, true, false, List, length, Some, None}
use Rattle.helios_model.specs.Naming.{first_bad_name}
use Rattle.helios_model.specs.Plans.{IsMatrix}
use Rattle.helios_model.specs.Squares.{first_away, first_below, first_too_long, first_uneven}

-- the first number that passes is found where one does, and nothing where none does
pub record FindsFirst (test : ℕ → Bool) (bound : ℕ) : Type 0 where
  pub found : (i : ℕ) → i < bound → test i ≡ true → ((k : ℕ) → k < i → test k ≡ false) → first_below test bound ≡ Some i
  pub none : ((k : ℕ) → k < bound → test k ≡ false) → first_below test bound ≡ None

abbrev pub EachSearchFindsFirst : Type 0
EachSearchFindsFirst = (test : ℕ → Bool) (bound : ℕ) → FindsFirst test bound

-- no name is bad, no round trip is too long or uneven, and no site is away from itself
pub record PassesTests (names : List (List ℕ)) (trips : List ℕ) : Type 0 where
  pub named : first_bad_name names ≡ None
  pub short : first_too_long (length names) trips ≡ None
  pub even : first_uneven (length names) trips ≡ None
  pub home : first_away (length names) trips ≡ None

abbrev pub EachMatrixPasses : Type 0
EachMatrixPasses = (names : List (List ℕ)) (trips : List ℕ) → IsMatrix names trips → PassesTests names trips
