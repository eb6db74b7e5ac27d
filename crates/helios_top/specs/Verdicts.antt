-- The status and the line of each verdict on a plan, and of each verdict on a history.
use Rattle.std.specs.Prelude.{ℕ, List, [], ◌∷◌, ◌++◌, codes, decimal}
use Rattle.helios_model.specs.Ids.{version_text}
use Rattle.helios_model.specs.declared.ids.Version.{Version}
use Rattle.history_audit.specs.declared.verdict.AuditVerdict.{AuditVerdict}
use Rattle.history_audit.specs.declared.verdict.AuditVerdict.TheVariants.{Serial, NotSerial}
use Rattle.plan_certificate.specs.declared.verdict.Verdict.{Verdict}
use Rattle.plan_certificate.specs.declared.verdict.Verdict.TheVariants.{Optimal, Short, NoPairing, ValueDiffers}

-- 0 for a plan that its pairing shows to be optimal, 9 for any other
abbrev pub verdict_status : Verdict → ℕ
verdict_status (Optimal total) = 0
verdict_status (Short i j) = 9
verdict_status (NoPairing i) = 9
verdict_status (ValueDiffers given value) = 9

-- a verdict on a plan, with its numbers
abbrev pub verdict_text : Verdict → List ℕ
verdict_text (Optimal total) = codes "optimal " ++ decimal total
verdict_text (Short i j) = codes "short " ++ decimal i ++ codes " " ++ decimal j
verdict_text (NoPairing i) = codes "no-pairing " ++ decimal i
verdict_text (ValueDiffers given value) = codes "value-differs " ++ decimal given ++ codes " " ++ decimal value

-- 0 for a history in which each transaction read what those before it wrote, 9 for any other
abbrev pub audit_status : AuditVerdict → ℕ
audit_status (Serial count) = 0
audit_status (NotSerial place key read current) = 9

-- the line of a read of a key's version where another one was current, at the place of its transaction
abbrev pub stale_line : ℕ → List ℕ → Version → Version → List ℕ
stale_line place key read current =
    codes "not-serial " ++ (decimal place ++ codes " ") ++ key ++ (codes " " ++ version_text read ++ codes " " ++ version_text current ++ 10 ∷ [])

-- the line of a verdict on a history, with the number of its transactions or the first read of another version than the current one
abbrev pub audit_line : AuditVerdict → List ℕ
audit_line (Serial count) = codes "serial " ++ decimal count ++ 10 ∷ []
audit_line (NotSerial place key read current) = stale_line place key read current
