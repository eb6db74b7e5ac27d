use Rattle.std.proofs.Common.{◌<◌, All}
use Rattle.site_ledger.specs.Ledger.{AreKnown, Base, GoesOn, HasKnown, IsLedgerOf, log_in}
use Rattle.site_ledger.proofs.Arriving.{AbortedFirst}
use Rattle.site_ledger.proofs.arrivals.Taking.take_prepare.Given as goal

abbrev pub invariant-loop-id : goal.invariant-loop-id
invariant-loop-id l = record {
  here : All (λ id. id.site < l.taking.ledger.count) l.ids;
  known : HasKnown l.taking.ledger l.ids;
  goes : GoesOn l.initial.taking.ledger l.initial.taking.clock l.taking.ledger l.taking.clock;
  each : (b : Base) → IsLedgerOf b l.initial.taking.ledger → AreKnown (log_in b l.initial.taking.ledger) l.ids
      → AbortedFirst b l.cause l.ids l.id-index l.initial.taking.ledger l.initial.taking.clock l.taking.ledger l.taking.clock;
}
