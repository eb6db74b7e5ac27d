-- What a map of the written keys says of the version of each key.
use Rattle.std.specs.Prelude.{ℕ, List, Option, Some, None}
use Rattle.std.specs.BTreeMap.{is_at}
use Rattle.std.specs.Ordering.{nat_cmp}
use Rattle.std.specs.Cmp.Lexicographic.{slice_cmp}
use Rattle.std.specs.Map.{lookup}
use Rattle.helios_model.specs.declared.ids.TxnId.{TxnId}
use Rattle.helios_model.specs.declared.ids.Version.{Version}
use Rattle.helios_model.specs.declared.ids.Version.TheVariants.{Initial, Of}

abbrev pub version_of : Option TxnId → Version
version_of None = Initial
version_of (Some id) = Of id

-- the version of a key: the id under it, or none yet
abbrev pub version_in : List (List ℕ × TxnId) → List ℕ → Version
version_in entries key = version_of (lookup (is_at (slice_cmp nat_cmp key)) entries)
