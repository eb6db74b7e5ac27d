-- What a store says of each key: the transaction that wrote it last, and its value.
use Rattle.std.specs.Prelude.{ℕ, List, [], Option, Some, None, find}
use Rattle.std.specs.Ordering.{nat_cmp}
use Rattle.std.specs.Cmp.Lexicographic.{slice_cmp}
use Rattle.std.specs.Map.{lookup}
use Rattle.std.specs.BTreeMap.{is_at}
use Rattle.helios_model.specs.declared.ids.TxnId.{TxnId}
use Rattle.helios_model.specs.declared.ids.Version.{Version}
use Rattle.helios_model.specs.declared.ids.Version.TheVariants.{Initial, Of}
use Rattle.helios_model.specs.declared.transactions.WriteItem.{WriteItem}
use Rattle.helios_model.specs.Texts.{same_text}
use Rattle.version_store.specs.declared.held.Held.{Held}

-- what the entries have at a key
abbrev pub held_at : List (List ℕ × Held) → List ℕ → Option Held
held_at entries key = lookup (is_at (slice_cmp nat_cmp key)) entries

abbrev pub version_of : Option Held → Version
version_of None = Initial
version_of (Some held) = Of held.id

abbrev pub value_of : Option Held → List ℕ
value_of None = []
value_of (Some held) = held.value

-- the version of a key: that of the transaction that it holds, or none yet
abbrev pub version_in : List (List ℕ × Held) → List ℕ → Version
version_in entries key = version_of (held_at entries key)

-- the value of a key: that which it holds, or the empty one
abbrev pub value_in : List (List ℕ × Held) → List ℕ → List ℕ
value_in entries key = value_of (held_at entries key)

-- what a key holds after a transaction's write of it
abbrev pub written_over : TxnId → Option Held → Option WriteItem → Option Held
written_over id before None = before
written_over id before (Some w) = Some (record { id = id; value = w.value })

-- what a key holds after a transaction's writes
abbrev pub held_after : TxnId → List WriteItem → Option Held → List ℕ → Option Held
held_after id writes before key = written_over id before (find (λ w. same_text w.key key) writes)
