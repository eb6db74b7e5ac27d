use Rattle.std.proofs.Common.{◌∙◌, sym, subst, ◌<◌, arith, All}
use Rattle.helios_model.specs.declared.records.Record.TheVariants.{Prepare}
use Rattle.site_ledger.specs.Ledger.{log_in}
use Rattle.site_ledger.proofs.Arriving.{clashing_below, clashing_on, goes_itself, goes_more, goes_on, id_known, known_after, next_aborted, none_aborted, prepare_becomes}
use Rattle.site_ledger.proofs.arrivals.Taking.take_prepare.Goals as goal

pub loop-id-init : goal.loop-id-init
loop-id-init c = record {
  here = clashing_below c.args.self.ledger.site c.in_ok-ledger.ledger.count (log_in c.requires.after.base c.args.self.ledger) c.args.p c.items-ids.result.now
      (c.items-ids.ensures ∙ c.in_ok-clashing.ensures.ids c.requires.after.base c.requires.after.is)
      (subst (λ n. c.args.self.ledger.site < n) (sym c.in_ok-ledger.ensures.site.count) c.in_ok-clashing.ensures.here);
  known = record {
    base = c.requires.after.base;
    is = c.in_ok-ledger.ensures.stands c.requires.after.base c.requires.after.is c.requires.after.after;
    known = clashing_on c.requires.after.base c.args.self.ledger c.in_ok-ledger.ledger c.args.p c.items-ids.result.now (c.items-ids.ensures ∙ c.in_ok-clashing.ensures.ids c.requires.after.base c.requires.after.is) c.in_ok-ledger.ensures.added;
  };
  goes = goes_itself c.in_ok-ledger.ledger c.args.self.clock
      (goes_more c.args.self.ledger c.in_ok-ledger.ledger c.args.self.clock c.args.self.clock (Prepare c.args.p) c.in_ok-ledger.ensures.site c.in_ok-ledger.ensures.added (omega arith) (omega arith) c.requires.bounded).bounded;
  each = λ b h known. none_aborted b c.id-cause.result c.items-ids.result.now c.in_ok-ledger.ledger c.args.self.clock h known;
}

pub abort-requires : goal.abort-requires
abort-requires c = record {
  here = subst (λ id. id.site < c.loop-id.taking.ledger.count) (sym c.id-item.is) (c.loop-id.invariant.here c.loop-id.id-index c.id-item.result c.loop-id-test.true);
  known = record {
    base = c.loop-id.invariant.known.base;
    is = c.loop-id.invariant.known.is;
    known = id_known (log_in c.loop-id.invariant.known.base c.loop-id.taking.ledger) c.items-ids.result.now c.loop-id.id-index c.id-item.result c.id-item.result c.id-item.is c.loop-id-test.true
        c.loop-id.invariant.known.known;
  };
  bounded = c.loop-id.invariant.goes.bounded;
}

pub loop-id-preserved : goal.loop-id-preserved
loop-id-preserved c =
    let first = id_known (log_in c.loop-id.invariant.known.base c.loop-id.taking.ledger) c.items-ids.result.now c.loop-id.id-index c.id-item.result c.id-item.result c.id-item.is c.loop-id-test.true
    c.loop-id.invariant.known.known in
    let step = c.in_ok-taking.ensures.aborted c.loop-id.invariant.known.base c.loop-id.invariant.known.is first in
    record {
      here = subst (λ n. All (λ id. id.site < n) c.items-ids.result.now) (sym c.in_ok-taking.ensures.goes.count) c.loop-id.invariant.here;
      known = record {
        base = c.loop-id.invariant.known.base;
        is = step.stands;
        known = known_after c.loop-id.invariant.known.base c.id-cause.result c.id-item.result c.items-ids.result.now c.loop-id.taking.ledger c.in_ok-taking.taking.ledger
            c.loop-id.taking.clock c.in_ok-taking.taking.clock step c.loop-id.invariant.known.known;
      };
      goes = goes_on c.loop-id.invariant.goes c.in_ok-taking.ensures.goes;
      each = λ b h known.
          let so_far = c.loop-id.invariant.each b h known in
          next_aborted b c.id-cause.result c.id-item.result c.id-item.result c.items-ids.result.now c.loop-id.id-index c.in_ok-ledger.ledger c.loop-id.taking.ledger c.in_ok-taking.taking.ledger
          c.args.self.clock c.loop-id.taking.clock c.in_ok-taking.taking.clock c.loop-id-test.true c.id-item.is so_far (c.in_ok-taking.ensures.aborted b so_far.stands);
    }

pub returns : goal.returns
returns c = record {
  taken = λ b h after.
      prepare_becomes b c.args.self.ledger c.in_ok-ledger.ledger c.loop-id.taking.ledger c.args.self.clock c.loop-id.taking.clock c.args.p c.id-cause.result c.items-ids.result.now c.loop-id.id-index
      c.id-cause.ensures (c.items-ids.ensures ∙ c.in_ok-clashing.ensures.ids b h) c.in_ok-ledger.ensures.added c.loop-id-test.false
      (c.loop-id.invariant.each b (c.in_ok-ledger.ensures.stands b h after)
      (clashing_on b c.args.self.ledger c.in_ok-ledger.ledger c.args.p c.items-ids.result.now (c.items-ids.ensures ∙ c.in_ok-clashing.ensures.ids b h) c.in_ok-ledger.ensures.added));
  goes = goes_on
      (goes_more c.args.self.ledger c.in_ok-ledger.ledger c.args.self.clock c.args.self.clock (Prepare c.args.p) c.in_ok-ledger.ensures.site c.in_ok-ledger.ensures.added (omega arith) (omega arith) c.requires.bounded)
      c.loop-id.invariant.goes;
}
