-- What the log of a site keeps, whatever the others tell it.
use Rattle.std.specs.Prelude.{◌≡◌, ◌≢◌, true, ℕ, ◌<◌, List, All, Contains}
use Rattle.helios_model.specs.declared.ids.TxnId.{TxnId}
use Rattle.helios_model.specs.declared.records.Record.{Record}
use Rattle.helios_model.specs.declared.records.Record.TheVariants.{Prepare, Commit, Abort}
use Rattle.helios_model.specs.Transactions.{Transaction, conflict}
use Rattle.helios_model.specs.Log.{prepares}
use Rattle.protocol_laws.specs.Shapes.{EachBehind}
use Rattle.protocol_laws.specs.Pool.{PoolLaws}
use Rattle.protocol_laws.specs.Order.{OrderLaws}

-- the cause of an Abort is a transaction of another site, and it conflicts with the aborted one: both stand before the Abort
pub record IsCaused (site : ℕ) (before : List Record) (id cause : TxnId) : Type 0 where
  pub elsewhere : cause.site ≢ site
  pub aborted : Transaction
  pub aborted_id : aborted.id ≡ id
  pub aborted_stands : Contains (prepares before) aborted
  pub other : Transaction
  pub other_id : other.id ≡ cause
  pub other_stands : Contains (prepares before) other
  pub conflicts : conflict aborted other ≡ true

-- an own Abort has its cause
abbrev pub HasCause : ℕ → List Record → Record → Type 0
HasCause site before (Prepare p) = Unit {0}
HasCause site before (Commit id time) = Unit {0}
HasCause site before (Abort id time cause) = id.site ≡ site → IsCaused site before id cause

-- a Commit or an Abort has a time above that of its id
abbrev pub EndsLater : Record → Type 0
EndsLater (Prepare p) = Unit {0}
EndsLater (Commit id time) = id.time < time
EndsLater (Abort id time cause) = id.time < time

-- the laws of a site's log
pub record LogLaws (site : ℕ) (log : List Record) : Type 0 where
  pub pool : PoolLaws site log
  pub order : OrderLaws site log
  pub caused : EachBehind (HasCause site) log
  pub later : All EndsLater log
