use Rattle.std.proofs.Common.{refl}
use Rattle.helios_model.specs.declared.records.Record.TheVariants.{Commit}
use Rattle.site_ledger.specs.Ledger.{holds_id}
use Rattle.site_ledger.proofs.Arriving.{end_becomes, end_goes}
use Rattle.site_ledger.proofs.arrivals.Taking.take_commit.Goals as goal

pub returns : goal.returns
returns c = record {
  taken = λ b h. end_becomes b c.args.self.ledger c.in_ok-ledger.ledger c.args.self.clock c.args.id.now (Commit c.args.id.now c.args.time)
      (holds_id c.args.self.ledger.pools c.args.id.now) h (c.in_ok-ledger.ensures.stands b h) refl c.in_ok-ledger.ensures.added;
  goes = end_goes c.args.self.ledger c.in_ok-ledger.ledger c.args.self.clock (Commit c.args.id.now c.args.time)
      (holds_id c.args.self.ledger.pools c.args.id.now) c.in_ok-ledger.ensures.site c.in_ok-ledger.ensures.added c.requires.bounded;
}
