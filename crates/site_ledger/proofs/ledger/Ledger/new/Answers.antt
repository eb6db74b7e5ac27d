use Rattle.site_ledger.specs.Ledger.{empty_base}
use Rattle.site_ledger.proofs.First.{first_stands}
use Rattle.site_ledger.proofs.ledger.Ledger.new.Goals as goal

pub invariant_of-ledger : goal.invariant_of-ledger
invariant_of-ledger c = (
  c.new-4.ensures.ordered,
  record {
    base = empty_base;
    is = first_stands c.args.count c.args.site c.in_ok-exchange.exchange c.in_ok-pools.pools c.in_ok-store.store c.new-4.result.entries c.new-5.result.items c.new-6.result.items
        c.in_ok-exchange.ensures c.in_ok-pools.ensures c.in_ok-store.ensures c.new-4.ensures.empty c.new-5.ensures.items c.new-6.ensures.items;
  },
)
