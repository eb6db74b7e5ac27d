-- Which commit a current version is of.
use Rattle.std.proofs.Common.{refl, ℕ, List, [], ◌∷◌, fold, Contains}
use Rattle.std.proofs.lemmas.Bool.{cond_both}
use Rattle.helios_model.specs.declared.ids.Version.{Version}
use Rattle.helios_model.specs.declared.ids.Version.TheVariants.{Initial, Of}
use Rattle.helios_model.specs.declared.records.Record.{Record}
use Rattle.helios_model.specs.declared.records.CommitEvent.{CommitEvent}
use Rattle.helios_model.specs.Transactions.{writes_key}
use Rattle.helios_model.specs.Log.{commits, version_after, current}
use Rattle.helios_model.specs.NamedAbort.{IsVersionIn}
use Rattle.protocol_laws.proofs.Lists.{contains_here, contains_later}
use Rattle.protocol_laws.proofs.Committed.{event_of}

-- the current version of a key is that of an event whose Commit stands in the log
pub current_named : (history : List CommitEvent) (records : List Record) (key : List ℕ) → ((e : CommitEvent) → Contains (commits records) e → Contains history e)
    → IsVersionIn history records key (current records key)
current_named history records key known = folded (commits records) Initial (λ e there. there) tt
  where
    after : (version : Version) (e : CommitEvent) → Contains (commits records) e → IsVersionIn history records key version
        → IsVersionIn history records key (version_after key version e)
    after version e there h =
        cond_both (writes_key e.prepare key) (Of e.prepare.id) version (IsVersionIn history records key)
        (λ writes. record { event = e; stands = known e there; named = refl; writes = writes; logged = (event_of records e there).committed })
        (λ unwritten. h)

    folded : (es : List CommitEvent) (version : Version) → ((e : CommitEvent) → Contains es e → Contains (commits records) e)
        → IsVersionIn history records key version → IsVersionIn history records key (fold (version_after key) version es)
    folded [] version each h = h
    folded (e ∷ es) version each h =
        folded es (version_after key version e) (λ x there. each x (contains_later e es x there)) (after version e (each e (contains_here e es)) h)
