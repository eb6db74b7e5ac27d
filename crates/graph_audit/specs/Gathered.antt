-- What is kept of some records while others are still to come.
use Rattle.std.specs.Prelude.{◌≡◌, List}
use Rattle.std.specs.BTreeMap.{get}
use Rattle.helios_model.specs.Log.{prepare_of}
use Rattle.helios_model.specs.declared.ids.TxnId.{TxnId}
use Rattle.helios_model.specs.declared.records.Record.{Record}
use Rattle.graph_audit.specs.Committed.{committed_ids, differing_ids}
use Rattle.graph_audit.specs.Ordering.{id_cmp}
use Rattle.graph_audit.specs.declared.gathering.Gathered.{Gathered}

-- the first Prepare of each id, the ids with two that differ, and the committed ids
pub record IsGathered (g : Gathered) (records : List Record) : Type 0 where
  pub prepares : (id : TxnId) → get id_cmp g.prepares id ≡ prepare_of records id
  pub differing : g.differing.keys ≡ differing_ids records
  pub committed : g.committed.keys ≡ committed_ids records
