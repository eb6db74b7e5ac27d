-- The Prepares of the committed ids among some records, or the first of their rules that the records break.
use Rattle.std.specs.Prelude.{Bool, false, not, is_some, ◌&&◌, List, map, filter, find, Option, Some, None, Result, Ok, Err}
use Rattle.std.specs.Cmp.Lexicographic.{pointwise}
use Rattle.std.specs.List.{filter_map, slice_get}
use Rattle.helios_model.specs.Ids.{same_id, same_version}
use Rattle.helios_model.specs.Log.{prepare_of, prepares}
use Rattle.helios_model.specs.Texts.{same_text}
use Rattle.helios_model.specs.Transactions.{Transaction}
use Rattle.helios_model.specs.declared.ids.TxnId.{TxnId}
use Rattle.helios_model.specs.declared.records.Record.{Record}
use Rattle.helios_model.specs.declared.records.Record.TheVariants.{Prepare, Commit, Abort}
use Rattle.helios_model.specs.declared.transactions.ReadItem.{ReadItem}
use Rattle.helios_model.specs.declared.transactions.WriteItem.{WriteItem}
use Rattle.json_text.specs.Reading.{◌>>=◌}
use Rattle.graph_audit.specs.Ordering.{rising}
use Rattle.graph_audit.specs.declared.refusal.DumpsRefusal.{DumpsRefusal}
use Rattle.graph_audit.specs.declared.refusal.DumpsRefusal.TheVariants.{PrepareDiffers, NoPrepare}

abbrev pub same_read : ReadItem → ReadItem → Bool
same_read a b = same_text a.key b.key && same_version a.version b.version

abbrev pub same_write : WriteItem → WriteItem → Bool
same_write a b = same_text a.key b.key && same_text a.value b.value && same_version a.over b.over

-- whether two Prepares have the same id, reads and writes
abbrev pub same_prepare : Transaction → Transaction → Bool
same_prepare a b = same_id a.id b.id && pointwise same_read a.reads b.reads && pointwise same_write a.writes b.writes

-- whether a Prepare is another than the one that was found
abbrev pub is_another : Transaction → Option Transaction → Bool
is_another p None = false
is_another p (Some found) = not (same_prepare found p)

-- the id of a Commit
abbrev pub commit_id : Record → Option TxnId
commit_id (Prepare p) = None
commit_id (Commit id time) = Some id
commit_id (Abort id time cause) = None

-- the ids that have a Commit, in order
abbrev pub committed_ids : List Record → List TxnId
committed_ids records = rising (filter_map commit_id records)

-- the Prepares that differ from the first one of their id
abbrev pub others : List Record → List Transaction
others records = filter (λ p. is_another p (prepare_of records p.id)) (prepares records)

-- the ids that have two different Prepares, in order
abbrev pub differing_ids : List Record → List TxnId
differing_ids records = rising (map (λ p. p.id) (others records))

-- whether an id has no Prepare
abbrev pub is_unprepared : List Record → TxnId → Bool
is_unprepared records id = not (is_some (prepare_of records id))

-- nothing where there is no such id, or else its refusal
abbrev pub no_id : (TxnId → DumpsRefusal) → Option TxnId → Result (Unit {0}) DumpsRefusal
no_id refusal None = Ok tt
no_id refusal (Some id) = Err (refusal id)

-- the Prepares of the committed ids in order of id, where no id has two that differ and each committed id has one;
-- or else the least id that breaks the first of these two rules that is broken
unfoldable pub committed_of : List Record → Result (List Transaction) DumpsRefusal
committed_of records =
    no_id PrepareDiffers (slice_get (differing_ids records) 0) >>= λ agreed.
    no_id NoPrepare (find (is_unprepared records) (committed_ids records)) >>= λ prepared.
    Ok (filter_map (prepare_of records) (committed_ids records))
