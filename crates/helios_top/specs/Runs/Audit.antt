-- `helios audit`: the input is a history, and the line is the verdict on it: the number of its transactions, each of which read what those before it
-- wrote, or the first read of another version than the one that was current.
use Rattle.std.specs.Prelude.{◌≡◌, ℕ, List, IsOkAnd}
use Rattle.history_audit.specs.declared.history.Item.{Item}
use Rattle.history_audit.specs.Auditing.{audit_of}
use Rattle.history_audit.specs.Reading.{history_of_text}
use Rattle.helios_top.specs.declared.words.Command.TheVariants.{Audit}
use Rattle.helios_top.specs.declared.ending.Ending.{Ending}
use Rattle.helios_top.specs.declared.ending.Ending.TheVariants.{Audited}
use Rattle.helios_top.specs.Inputs.{ReadsInput}
use Rattle.helios_top.specs.Outside.{Outside}

-- the end is the verdict on these transactions
abbrev pub IsAudited : List Item → Ending → Type 0
IsAudited history ending = ending ≡ Audited (audit_of history)

-- what is answered to a text that is a history
abbrev pub IsAuditAnswer : Ending → List ℕ → Type 0
IsAuditAnswer ending text = IsOkAnd (history_of_text text) (λ history. IsAudited history ending)

-- what a run of `audit` does, whatever end it comes to
pub record AuditRun (before after : Outside) (ending : Ending) : Type 0 where
  pub reads : ReadsInput Audit before.input after.input ending (IsAuditAnswer ending)
  pub bench : after.bench ≡ before.bench
  pub disk : after.disk ≡ before.disk
