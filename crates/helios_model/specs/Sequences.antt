-- Records in a list: which stand before which, and lists whose own times rise.
use Rattle.std.specs.Prelude.{◌≡◌, ℕ, ◌<◌, List, [], ◌∷◌, ◌⊎◌, nat_eq, nat_le, nat_lt, filter}
use Rattle.helios_model.specs.declared.records.Record.{Record}
use Rattle.helios_model.specs.Log.{origin, own_time}

-- the element stands in the list
abbrev pub Mem : {A : Type 0} → A → List A → Type 0
Mem a [] = ⊥
Mem a (x ∷ xs) = (x ≡ a) ⊎ Mem a xs

-- the one stands before the other
abbrev pub Before : {A : Type 0} → A → A → List A → Type 0
Before a b [] = ⊥
Before a b (x ∷ xs) = ((x ≡ a) × Mem b xs) ⊎ Before a b xs

-- own times rise strictly, from above a number
abbrev pub Rising : ℕ → List Record → Type 0
Rising low [] = Unit {0}
Rising low (r ∷ rs) = (low < own_time r) × Rising (own_time r) rs

-- the own time of the last record, or the number that stands for none
abbrev pub last_own : ℕ → List Record → ℕ
last_own low [] = low
last_own low (r ∷ rs) = last_own (own_time r) rs

-- the records of one origin
abbrev pub of : ℕ → List Record → List Record
of k records = filter (λ r. nat_eq (origin r) k) records

-- the records up to a time
abbrev pub upto : ℕ → List Record → List Record
upto time records = filter (λ r. nat_le (own_time r) time) records

-- the records above a time
abbrev pub over : ℕ → List Record → List Record
over time records = filter (λ r. nat_lt time (own_time r)) records
