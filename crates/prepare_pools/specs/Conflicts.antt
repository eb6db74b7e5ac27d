-- The first of several numbers, and what a transaction does to a key.
use Rattle.std.specs.Prelude.{◌≡◌, ℕ, List, Bool, ◌&&◌, ◌||◌, Option, Some, None, nat_eq, min, filter, map, if◌then◌else◌}
use Rattle.std.specs.Ordering.{nat_cmp}
use Rattle.std.specs.Map.{lookup}
use Rattle.std.specs.BTreeMap.{is_at}
use Rattle.helios_model.specs.declared.ids.TxnId.{TxnId}
use Rattle.helios_model.specs.Transactions.{Transaction, writes_key}
use Rattle.prepare_pools.specs.declared.touch.Touch.{Touch}
use Rattle.prepare_pools.specs.Touches.{touches}

-- the lower of two numbers, where there is one
abbrev pub earlier : Option ℕ → Option ℕ → Option ℕ
earlier None b = b
earlier (Some a) None = Some a
earlier (Some a) (Some b) = Some (min a b)

-- it touches the key, or it writes it
abbrev pub hits : Bool → List ℕ → Transaction → Bool
hits any key q = if any then touches q key else writes_key q key

-- the touch is of one of the site's, and it counts
abbrev pub chosen : ℕ → Bool → Touch → Bool
chosen site any t = nat_eq t.id.site site && (any || t.write)

-- the ids of those of a line that pass, with their numbers
abbrev pub ids_of : (Transaction → Bool) → List (ℕ × Transaction) → List (ℕ × TxnId)
ids_of test line = map (λ e. (e.0, e.1.id)) (filter (λ e. test e.1) line)

-- what was found are those that pass
pub record IsFound (test : Transaction → Bool) (line : List (ℕ × Transaction)) (found : List (ℕ × TxnId)) : Type 0 where
  pub at : (number : ℕ) → lookup (is_at (nat_cmp number)) found ≡ lookup (is_at (nat_cmp number)) (ids_of test line)
