use Rattle.std.proofs.Common.{All}
use Rattle.node_limits.specs.Limits.{MayTake}
use Rattle.time_table.specs.Table.{time_at}
use Rattle.site_ledger.specs.Ledger.{Base, GoesOn, IsLedgerOf, log_in}
use Rattle.site_ledger.proofs.Arriving.{TookFirst}
use Rattle.site_ledger.proofs.arrivals.Taking.take_all.Given as goal

abbrev pub invariant-loop-r : goal.invariant-loop-r
invariant-loop-r l = record {
  goes : GoesOn l.initial.taking.ledger l.initial.taking.clock l.taking.ledger l.taking.clock;
  each : (b : Base) → IsLedgerOf b l.initial.taking.ledger
      → All (MayTake l.initial.taking.ledger.site (time_at l.t l.initial.taking.ledger.site) (log_in b l.initial.taking.ledger)) l.fn.records
      → TookFirst l.initial.taking.ledger.site (time_at l.t l.initial.taking.ledger.site) b l.initial.taking.ledger l.initial.taking.clock l.taking.ledger l.taking.clock l.fn.records l.yielded;
}
