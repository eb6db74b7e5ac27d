use Rattle.std.proofs.Common.{◌≡◌, ◌∙◌, sym, true, false, arith, refl}
use Rattle.helios_model.specs.declared.records.Record.TheVariants.{Abort}
use Rattle.helios_model.specs.Exchange.{is_unfinished}
use Rattle.site_ledger.specs.Ledger.{log_in}
use Rattle.site_ledger.proofs.Ends.{held_waits}
use Rattle.site_ledger.proofs.Kept.{held_known}
use Rattle.site_ledger.proofs.Arriving.{end_becomes, goes_itself, goes_more, one_known}
use Rattle.site_ledger.proofs.arrivals.Taking.take_abort.Goals as goal

pub append_abort-requires : goal.append_abort-requires
append_abort-requires c =
    let waits : is_unfinished (log_in c.has_log.ensures.base c.args.self.ledger) c.args.id.now ≡ true =
    sym (c.holds.ensures.stands c.has_log.ensures.base c.has_log.ensures.is) ∙ c.if-holds.true in
    record {
      origin = c.requires.origin;
      known = record {
        base = c.has_log.ensures.base;
        is = c.has_log.ensures.is;
        known = one_known (log_in c.has_log.ensures.base c.args.self.ledger) c.args.id.now (held_known (log_in c.has_log.ensures.base c.args.self.ledger) c.args.id.now waits);
      };
    }

pub returns-then-holds : goal.returns-then-holds
returns-then-holds c = record {
  taken = λ b h.
      let waits : is_unfinished (log_in b c.args.self.ledger) c.args.id.now ≡ true = sym (c.holds.ensures.stands b h) ∙ c.if-holds.true in
      end_becomes b c.args.self.ledger c.in_ok-ledger.ledger c.args.self.clock c.args.id.now (Abort c.args.id.now c.args.time c.args.cause.now) true h
      (c.in_ok-ledger.ensures.stands b h (one_known (log_in b c.args.self.ledger) c.args.id.now (held_known (log_in b c.args.self.ledger) c.args.id.now waits)))
      (held_waits b c.args.self.ledger c.args.id.now h ∙ waits) c.in_ok-ledger.ensures.added;
  goes = goes_more c.args.self.ledger c.in_ok-ledger.ledger c.args.self.clock c.args.self.clock (Abort c.args.id.now c.args.time c.args.cause.now)
      c.in_ok-ledger.ensures.site c.in_ok-ledger.ensures.added (omega arith) (omega arith) c.requires.bounded;
}

pub returns : goal.returns
returns c = record {
  taken = λ b h. end_becomes b c.args.self.ledger c.args.self.ledger c.args.self.clock c.args.id.now (Abort c.args.id.now c.args.time c.args.cause.now) false h h
      (held_waits b c.args.self.ledger c.args.id.now h ∙ sym (c.holds.ensures.stands b h) ∙ c.if-holds.false) refl;
  goes = goes_itself c.args.self.ledger c.args.self.clock c.requires.bounded;
}
