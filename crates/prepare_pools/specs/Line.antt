-- Things in a line, each with a number: the numbers rise, and no two have the same name.
use Rattle.std.specs.Prelude.{◌≡◌, ℕ, ◌<◌, List, [], ◌∷◌, Bool, Option, nat_eq, find}
use Rattle.std.specs.List.{AllByRecursion}
use Rattle.std.specs.Option.{option_map}
use Rattle.std.specs.Ordering.{nat_cmp}
use Rattle.std.specs.Map.{lookup}
use Rattle.std.specs.BTreeMap.{is_at}

-- each stands in the relation to each that follows it
abbrev pub AllPairs : {X : Type 0} → (X → X → Type 0) → List X → Type 0
AllPairs R [] = Unit {0}
AllPairs R (x ∷ xs) = AllByRecursion (R x) xs × AllPairs R xs

-- the one has the lower number, and the other another name
abbrev pub Precedes : {X N : Type 0} → (X → N) → ℕ × X → ℕ × X → Type 0
Precedes name e f = (e.0 < f.0) × (name e.1 ≡ name f.1 → ⊥)

abbrev pub IsLine : {X N : Type 0} → (X → N) → List (ℕ × X) → Type 0
IsLine name entries = AllPairs (Precedes name) entries

-- each number is lower
abbrev pub AllBelow : {X : Type 0} → ℕ → List (ℕ × X) → Type 0
AllBelow number entries = AllByRecursion (λ e. e.0 < number) entries

-- the number of the first that passes
abbrev pub arrival_of : {X : Type 0} → (X → Bool) → List (ℕ × X) → Option ℕ
arrival_of test entries = option_map (λ e. e.0) (find (λ e. test e.1) entries)

-- times in a line, and the number of each
pub record IsArrived (times arrivals : List (ℕ × ℕ)) : Type 0 where
  pub line : IsLine (λ t. t) times
  pub back : (time : ℕ) → lookup (is_at (nat_cmp time)) arrivals ≡ arrival_of (λ t. nat_eq t time) times
