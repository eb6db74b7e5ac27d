-- The audit of a history: a map gives every key Initial, each transaction has to read the map's versions, and then the
-- keys that it wrote map to its id.
use Rattle.std.specs.Prelude.{ℕ, ◌+◌, not, List, [], ◌∷◌, Option, Some, None, find, if◌then◌else◌}
use Rattle.helios_model.specs.Ids.{same_version}
use Rattle.helios_model.specs.Texts.{contains_text}
use Rattle.helios_model.specs.declared.ids.Version.{Version}
use Rattle.helios_model.specs.declared.ids.Version.TheVariants.{Initial, Of}
use Rattle.helios_model.specs.declared.transactions.ReadItem.{ReadItem}
use Rattle.history_audit.specs.declared.history.Item.{Item}
use Rattle.history_audit.specs.declared.verdict.AuditVerdict.{AuditVerdict}
use Rattle.history_audit.specs.declared.verdict.AuditVerdict.TheVariants.{Serial, NotSerial}

-- the map after a transaction
abbrev pub written : Item → (List ℕ → Version) → List ℕ → Version
written x versions key = if contains_text x.writes key then Of x.id else versions key

-- the first read whose version isn't the map's
abbrev pub first_stale : (List ℕ → Version) → List ReadItem → Option ReadItem
first_stale versions reads = find (λ r. not (same_version r.version (versions r.key))) reads

-- the verdict of the rest, where no read is stale
abbrev pub unless_stale : (List ℕ → Version) → ℕ → Option ReadItem → AuditVerdict → AuditVerdict
unless_stale versions place None rest = rest
unless_stale versions place (Some r) rest = NotSerial place r.key r.version (versions r.key)

-- the verdict on the transactions from a place on, behind those that made the map
abbrev pub audit_from : (List ℕ → Version) → ℕ → List Item → AuditVerdict
audit_from versions place [] = Serial place
audit_from versions place (x ∷ xs) = unless_stale versions place (first_stale versions x.reads) (audit_from (written x versions) (place + 1) xs)

abbrev pub audit_of : List Item → AuditVerdict
audit_of history = audit_from (λ key. Initial) 0 history
