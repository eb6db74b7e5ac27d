-- The order of ids, and ids in it.
use Rattle.std.specs.Prelude.{List, [], fold}
use Rattle.std.specs.BTreeSet.{insert_key}
use Rattle.std.specs.Ordering.{nat_cmp, ordering_then}
use Rattle.std.specs.declared.cmp.Ordering.{Ordering}
use Rattle.helios_model.specs.declared.ids.TxnId.{TxnId}

-- by site, and then by time
abbrev pub id_cmp : TxnId → TxnId → Ordering
id_cmp a b = ordering_then (nat_cmp a.site b.site) (nat_cmp a.time b.time)

-- these ids in order, each once
abbrev pub rising : List TxnId → List TxnId
rising ids = fold (insert_key id_cmp) [] ids
