-- The transactions of a serial history pass the audit.
use Rattle.std.proofs.Common.{◌≡◌, ℕ, ◌+◌, true, cond, List, [], ◌∷◌, Some, None, length, map, nat_eq, refl, ◌∙◌, ap, arith}
use Rattle.std.specs.Prelude.{not, All}
use Rattle.std.proofs.lemmas.Bool.{and_from, eq-eqb}
use Rattle.std.proofs.lemmas.List.Elements.{All-head, All-tail}
use Rattle.helios_model.specs.Ids.{same_version}
use Rattle.helios_model.specs.Log.{version_after}
use Rattle.helios_model.specs.Serial.{IsSerial, SerialFrom}
use Rattle.helios_model.specs.declared.ids.Version.{Version}
use Rattle.helios_model.specs.declared.ids.Version.TheVariants.{Initial, Of}
use Rattle.helios_model.specs.declared.records.CommitEvent.{CommitEvent}
use Rattle.helios_model.specs.declared.transactions.ReadItem.{ReadItem}
use Rattle.history_audit.specs.Auditing.{audit_from, audit_of, first_stale, unless_stale, written}
use Rattle.history_audit.specs.Printing.{item_of}
use Rattle.history_audit.specs.declared.verdict.AuditVerdict.TheVariants.{Serial}

version_itself : (v : Version) → same_version v v ≡ true
version_itself Initial = refl
version_itself (Of id) = and_from (nat_eq id.site id.site) (nat_eq id.time id.time) (eq-eqb id.site id.site refl) (eq-eqb id.time id.time refl)

none_stale : (versions : List ℕ → Version) (reads : List ReadItem) → All (λ r. r.version ≡ versions r.key) reads → first_stale versions reads ≡ None
none_stale versions [] follows = refl
none_stale versions (r ∷ rs) follows =
    ap (λ v. cond (not (same_version v (versions r.key))) (Some r) (first_stale versions rs)) (All-head (λ r. r.version ≡ versions r.key) r rs follows)
    ∙ ap (λ b. cond (not b) (Some r) (first_stale versions rs)) (version_itself (versions r.key))
    ∙ none_stale versions rs (All-tail (λ r. r.version ≡ versions r.key) r rs follows)

passes_from : (versions : List ℕ → Version) (place : ℕ) (es : List CommitEvent) → SerialFrom versions es → audit_from versions place (map item_of es) ≡ Serial (place + length es)
passes_from versions place [] serial = ap Serial (let same : place ≡ place + 0 = omega arith in same)
passes_from versions place (e ∷ es) serial =
    ap (λ o. unless_stale versions place o (audit_from (written (item_of e) versions) (place + 1) (map item_of es))) (none_stale versions e.prepare.reads serial.0.reads)
    ∙ passes_from (λ key. version_after key (versions key) e) (place + 1) es serial.1
    ∙ ap Serial (let same : (place + 1) + length es ≡ place + length (e ∷ es) = omega arith in same)

pub passes : (events : List CommitEvent) → IsSerial events → audit_of (map item_of events) ≡ Serial (length events)
passes events is = passes_from (λ key. Initial) 0 events is.serial ∙ ap Serial (let same : 0 + length events ≡ length events = omega arith in same)
