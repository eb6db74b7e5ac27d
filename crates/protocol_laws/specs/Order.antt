-- What holds of a record with the records before it, and which Prepares conflict with which.
use Rattle.std.specs.Prelude.{◌≡◌, true, false, ℕ, List, ◌∷◌, ◌++◌, All, is_some}
use Rattle.helios_model.specs.declared.ids.TxnId.{TxnId}
use Rattle.helios_model.specs.declared.records.Record.{Record}
use Rattle.helios_model.specs.declared.records.Record.TheVariants.{Prepare, Commit, Abort}
use Rattle.helios_model.specs.Ids.{same_id}
use Rattle.helios_model.specs.Transactions.{Transaction, conflict}
use Rattle.helios_model.specs.Log.{prepares, prepare_of, unfinished, finished, current}
use Rattle.helios_model.specs.Serial.{Follows}
use Rattle.protocol_laws.specs.Shapes.{EachBehind}

-- no Prepare of these records has this id
abbrev pub IsNew : List Record → TxnId → Type 0
IsNew records id = All (λ p. same_id p.id id ≡ false) (prepares records)

-- each version that the transaction names is the current one, and no unfinished one conflicts with it
pub record IsAsked (before : List Record) (p : Transaction) : Type 0 where
  pub follows : Follows (current before) p
  pub alone : All (λ q. conflict p q ≡ false) (unfinished before)

-- the id has a Prepare, and no Commit or Abort
pub record IsPending (before : List Record) (id : TxnId) : Type 0 where
  pub prepared : is_some (prepare_of before id) ≡ true
  pub unended : finished before id ≡ false

-- no Prepare behind this transaction's conflicts with it
abbrev pub IsClearBehind : List Record → Transaction → Type 0
IsClearBehind log p = (before after : List Record) → log ≡ before ++ Prepare p ∷ after → All (λ q. conflict p q ≡ false) (prepares after)

-- what holds of a record of a site's log with the records before it
abbrev pub IsLawful : ℕ → List Record → Record → Type 0
IsLawful site before (Prepare p) = IsNew before p.id × (p.id.site ≡ site → IsAsked before p)
IsLawful site before (Commit id time) = IsPending before id × (id.site ≡ site → (p : Transaction) → p.id ≡ id → IsClearBehind before p)
IsLawful site before (Abort id time cause) = IsPending before id

-- each record is lawful, and no Prepare behind an own unfinished one conflicts with it
pub record OrderLaws (site : ℕ) (log : List Record) : Type 0 where
  pub each : EachBehind (IsLawful site) log
  pub clear : (p : Transaction) → p.id.site ≡ site → finished log p.id ≡ false → IsClearBehind log p
