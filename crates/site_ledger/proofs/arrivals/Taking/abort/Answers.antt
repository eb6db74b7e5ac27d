use Rattle.std.proofs.Common.{◌+◌, arith, refl}
use Rattle.helios_model.specs.declared.records.Record.TheVariants.{Abort}
use Rattle.site_ledger.proofs.Arriving.{abort_becomes, goes_more}
use Rattle.site_ledger.proofs.arrivals.Taking.abort.Goals as goal

pub returns : goal.returns
returns c = record {
  aborted = λ b h known. abort_becomes b c.args.self.ledger c.in_ok-ledger.ledger c.args.self.clock (c.args.self.clock + 1) c.of.result c.args.cause.now c.args.id.now
      (c.in_ok-ledger.ensures.stands b h known) c.in_ok-ledger.ensures.added c.of.ensures refl;
  goes = goes_more c.args.self.ledger c.in_ok-ledger.ledger c.args.self.clock (c.args.self.clock + 1) (Abort c.args.id.now c.of.result c.args.cause.now)
      c.in_ok-ledger.ensures.site c.in_ok-ledger.ensures.added (omega arith) (omega arith) c.requires.bounded;
}
