-- What every Abort of a cluster names.
use Rattle.std.specs.Prelude.{◌≡◌, ◌≢◌, true, ℕ}
use Rattle.helios_model.specs.declared.ids.TxnId.{TxnId}
use Rattle.helios_model.specs.declared.records.Record.TheVariants.{Prepare, Abort}
use Rattle.helios_model.specs.Transactions.{Transaction, conflict}
use Rattle.helios_model.specs.Sequences.{Mem, Before}
use Rattle.protocol_laws.specs.Clusters.{Cluster}

-- the cause is a transaction of another site that conflicts with the aborted one: both stand before the Abort in the log of
-- the aborted one's site, and in this log too, and the cause stands in the log of its own site
pub record IsNamedAbort (w : Cluster) (i : ℕ) (id : TxnId) (time : ℕ) (cause : TxnId) : Type 0 where
  pub elsewhere : cause.site ≢ id.site
  pub aborted : Transaction
  pub aborted_id : aborted.id ≡ id
  pub other : Transaction
  pub other_id : other.id ≡ cause
  pub conflicts : conflict aborted other ≡ true
  pub aborted_first : Before (Prepare aborted) (Abort id time cause) (w.log id.site)
  pub other_first : Before (Prepare other) (Abort id time cause) (w.log id.site)
  pub aborted_here : Before (Prepare aborted) (Abort id time cause) (w.log i)
  pub other_here : Before (Prepare other) (Abort id time cause) (w.log i)
  pub other_home : Mem (Prepare other) (w.log cause.site)

abbrev pub AbortsAreNamed : Cluster → Type 0
AbortsAreNamed w = (i : ℕ) (id : TxnId) (time : ℕ) (cause : TxnId) → Mem (Abort id time cause) (w.log i) → IsNamedAbort w i id time cause
