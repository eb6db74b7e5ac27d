-- Which transactions touch a key: the lists of an index, and what the transactions themselves say.
use Rattle.std.specs.Prelude.{◌≡◌, ℕ, List, [], ◌∷◌, ◌++◌, Bool, true, false, not, ◌||◌, Option, Some, None, unwrap_or, filter, if◌then◌else◌}
use Rattle.std.specs.List.{filter_map}
use Rattle.std.specs.Ordering.{nat_cmp}
use Rattle.std.specs.Cmp.Lexicographic.{slice_cmp}
use Rattle.std.specs.Map.{lookup}
use Rattle.std.specs.BTreeMap.{is_at}
use Rattle.helios_model.specs.declared.ids.TxnId.{TxnId}
use Rattle.helios_model.specs.Ids.{same_id}
use Rattle.helios_model.specs.Texts.{contains_text, same_text}
use Rattle.helios_model.specs.Transactions.{Transaction, touched_by, writes_key}
use Rattle.prepare_pools.specs.declared.touch.Touch.{Touch}

-- how a transaction touches a key, if it does
abbrev pub touch_of : List ℕ → Transaction → Option Touch
touch_of key p =
    if writes_key p key then Some (record { id = p.id; write = true })
    else (if contains_text (touched_by p).read key then Some (record { id = p.id; write = false }) else None)

-- the touches of a key by a list of transactions, in its order
abbrev pub touches_in : List Transaction → List ℕ → List Touch
touches_in transactions key = filter_map (touch_of key) transactions

-- what an index says of a key
abbrev pub touched : List (List ℕ × List Touch) → List ℕ → List Touch
touched entries key = unwrap_or (lookup (is_at (slice_cmp nat_cmp key)) entries) []

abbrev pub without_id : TxnId → List Touch → List Touch
without_id id touches = filter (λ t. not (same_id t.id id)) touches

-- the touch of a key that is read or written; a key that is both is touched as written
abbrev pub one_touch : Transaction → Bool → List ℕ → List Touch
one_touch p write key = if write || not (writes_key p key) then record { id = p.id; write = write } ∷ [] else []

-- the touches of a key that come of these keys, which are all read or all written
abbrev pub touches_by : Transaction → Bool → List (List ℕ) → List ℕ → List Touch
touches_by p write [] q = []
touches_by p write (key ∷ keys) q = (if same_text key q then one_touch p write key else []) ++ touches_by p write keys q

-- nothing but touches of a transaction, and of these keys alone, is more or less
pub record KeepsRest (id : TxnId) (keys : List (List ℕ)) (old new : List (List ℕ × List Touch)) : Type 0 where
  pub others : (q : List ℕ) → contains_text keys q ≡ false → touched new q ≡ touched old q
  pub rest : (q : List ℕ) → without_id id (touched new q) ≡ without_id id (touched old q)

-- the transaction reads or writes the key
abbrev pub touches : Transaction → List ℕ → Bool
touches p key = writes_key p key || contains_text (touched_by p).read key

-- the index says of each key what the transactions say
pub record IsIndexed (transactions : List Transaction) (index : List (List ℕ × List Touch)) : Type 0 where
  pub says : (key : List ℕ) → touched index key ≡ touches_in transactions key
