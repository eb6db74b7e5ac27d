-- Ids and versions: which are the same, and how they are printed.
use Rattle.std.specs.Prelude.{Bool, true, false, ◌&&◌, nat_eq, ℕ, List, ◌++◌, codes, decimal}
use Rattle.helios_model.specs.declared.ids.TxnId.{TxnId}
use Rattle.helios_model.specs.declared.ids.Version.{Version}
use Rattle.helios_model.specs.declared.ids.Version.TheVariants.{Initial, Of}

abbrev pub same_id : TxnId → TxnId → Bool
same_id a b = nat_eq a.site b.site && nat_eq a.time b.time

abbrev pub same_version : Version → Version → Bool
same_version Initial Initial = true
same_version Initial (Of b) = false
same_version (Of a) Initial = false
same_version (Of a) (Of b) = same_id a b

-- an id as it is printed: SITE@TIME
abbrev pub id_text : TxnId → List ℕ
id_text id = decimal id.site ++ codes "@" ++ decimal id.time

abbrev pub version_text : Version → List ℕ
version_text Initial = codes "initial"
version_text (Of id) = id_text id
