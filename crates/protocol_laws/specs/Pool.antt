-- What a log keeps of its Prepares, open or ended.
use Rattle.std.specs.Prelude.{◌≡◌, true, false, ℕ, List, All, AllPairs, is_some}
use Rattle.helios_model.specs.declared.records.Record.{Record}
use Rattle.helios_model.specs.declared.records.Record.TheVariants.{Prepare, Commit, Abort}
use Rattle.helios_model.specs.Ids.{same_id}
use Rattle.helios_model.specs.Transactions.{Transaction, conflict}
use Rattle.helios_model.specs.Log.{prepares, prepare_of, unfinished, current}
use Rattle.helios_model.specs.Serial.{Follows}

-- the Prepare of a Commit or an Abort is in the log
abbrev pub IsBacked : List Record → Record → Type 0
IsBacked log (Prepare p) = Unit {0}
IsBacked log (Commit id time) = is_some (prepare_of log id) ≡ true
IsBacked log (Abort id time cause) = is_some (prepare_of log id) ≡ true

-- no other unfinished transaction conflicts with this one
abbrev pub IsApart : List Record → Transaction → Type 0
IsApart log p = All (λ q. same_id q.id p.id ≡ false → conflict p q ≡ false) (unfinished log)

-- what a site's log keeps of its Prepares: ids differ, each Commit and Abort has its Prepare, and an own unfinished
-- transaction conflicts with no other unfinished one, and names versions that are still current
pub record PoolLaws (site : ℕ) (log : List Record) : Type 0 where
  pub ids : AllPairs (λ p q. same_id p.id q.id ≡ false) (prepares log)
  pub backed : All (IsBacked log) log
  pub apart : All (λ p. p.id.site ≡ site → IsApart log p) (unfinished log)
  pub fits : All (λ p. p.id.site ≡ site → Follows (current log) p) (unfinished log)
