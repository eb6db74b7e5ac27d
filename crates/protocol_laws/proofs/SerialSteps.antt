use Rattle.std.proofs.Common.{◌≡◌, ◌∙◌, ap, sym, subst, ℕ, ◌<◌, false, Some, List, [], ◌∷◌, ◌++◌, length, get_or, fold, All, Contains}
use Rattle.std.proofs.lemmas.List.Elements.{Contains-get_or}
use Rattle.std.proofs.lemmas.List.Quantifiers.{all_pairs_push}
use Rattle.std.proofs.lemmas.Bool.{both_ways, false_from_ne_true}
use Rattle.helios_model.specs.declared.ids.TxnId.{TxnId}
use Rattle.helios_model.specs.declared.ids.Version.{Version}
use Rattle.helios_model.specs.declared.ids.Version.TheVariants.{Initial}
use Rattle.helios_model.specs.declared.records.Record.{Record}
use Rattle.helios_model.specs.declared.records.Record.TheVariants.{Commit}
use Rattle.helios_model.specs.declared.records.CommitEvent.{CommitEvent}
use Rattle.helios_model.specs.Ids.{same_id}
use Rattle.helios_model.specs.Transactions.{Transaction}
use Rattle.helios_model.specs.Log.{finished, prepares, prepare_of, event_at, commits, version_after, current}
use Rattle.helios_model.specs.Serial.{Follows, SerialFrom, IsSerial}
use Rattle.protocol_laws.specs.Pool.{IsBacked}
use Rattle.protocol_laws.proofs.Lists.{find_passes}
use Rattle.protocol_laws.proofs.Ids.{same_id_is}
use Rattle.protocol_laws.proofs.Committed.{commits_commit, event_ends}

-- one more commit that follows the map which the others made
pub serial_one_more : (versions : List ℕ → Version) (es : List CommitEvent) (e : CommitEvent) → SerialFrom versions es
    → Follows (λ key. fold (version_after key) (versions key) es) e.prepare → SerialFrom versions (es ++ e ∷ [])
serial_one_more versions [] e h follows = (follows, tt)
serial_one_more versions (x ∷ es) e h follows = (h.0, serial_one_more (λ key. version_after key (versions key) x) es e h.1 follows)

-- the commits of a log stay a serial history where a transaction commits whose versions are current
pub serial_commit : (log : List Record) (id : TxnId) (time : ℕ) (p : Transaction) → All (IsBacked log) log → IsSerial (commits log) → prepare_of log id ≡ Some p
    → finished log id ≡ false → Follows (current log) p → IsSerial (commits (log ++ Commit id time ∷ []))
serial_commit log id time p backed h found unended follows =
    subst IsSerial (sym (commits_commit log id time p backed found)) (record {
      distinct = all_pairs_push (λ a b. same_id a.prepare.id b.prepare.id ≡ false) (commits log) (event_at time p) h.distinct differs;
      serial = serial_one_more (λ key. Initial) (commits log) (event_at time p) h.serial follows;
    })
  where
    named : p.id ≡ id
    named = same_id_is p.id id (find_passes (λ q. same_id q.id id) (prepares log) p found).1

    apart : (e : CommitEvent) → Contains (commits log) e → same_id e.prepare.id p.id ≡ false
    apart e there = false_from_ne_true (same_id e.prepare.id p.id) (λ same.
        let one : e.prepare.id ≡ id = same_id_is e.prepare.id p.id same ∙ named in
        both_ways (finished log id) unended (ap (finished log) (sym one) ∙ event_ends log e there))

    differs : (k : ℕ) (d : CommitEvent) → k < length (commits log) → same_id (get_or (commits log) k d).prepare.id p.id ≡ false
    differs k d low = apart (get_or (commits log) k d) (Contains-get_or (commits log) k d low)
