use Rattle.std.proofs.Common.{◌∙◌, ap, sym, subst, refl}
use Rattle.log_exchange.specs.Kept.{needed}
use Rattle.site_ledger.specs.Ledger.{IsLedgerOf, ledger_data, log_in}
use Rattle.site_ledger.proofs.Growth.{finished_stands}
use Rattle.site_ledger.proofs.ledger.Ledger.finish.Goals as goal

pub drop_known-requires : goal.drop_known-requires
drop_known-requires c = record { count = c.requires.count ∙ ap (λ l. l.count) (sym c.self.view_is) }

pub invariant_of-ledger : goal.invariant_of-ledger
invariant_of-ledger c = (
  c.self.invariant.0,
  record {
    base = record {
      log = log_in c.self.invariant.1.base (ledger_data c.self.inside.exchange c.self.inside.pools c.self.inside.store c.self.inside.ended.entries c.self.inside.added.items c.self.inside.commits.items);
      kept = c.drop_known.new.self.records;
    };
    is = finished_stands c.self.invariant.1.base (ledger_data c.self.inside.exchange c.self.inside.pools c.self.inside.store c.self.inside.ended.entries c.self.inside.added.items c.self.inside.commits.items)
        (ledger_data c.drop_known.new.self c.self.inside.pools c.self.inside.store c.self.inside.ended.entries c.new.result.items c.new-2.result.items)
        c.self.invariant.1.is (ap (λ x. x.site) c.drop_known.ensures) refl refl refl c.new.ensures.items c.new-2.ensures.items;
  },
)

pub returns : goal.returns
returns c = record {
  added = c.new-3.ensures ∙ ap (λ l. l.added) c.self.view_is;
  commits = c.new-4.ensures ∙ ap (λ l. l.commits) c.self.view_is;
  fresh = (c.new.ensures.items, c.new-2.ensures.items);
  kept = ap (λ x. x.records) c.drop_known.ensures ∙ ap (λ l. needed l.count c.args.t.now.times l.kept) c.self.view_is;
  stands = λ b h. subst (λ l. IsLedgerOf (record { log = log_in b l; kept = c.drop_known.new.self.records })
      (ledger_data c.drop_known.new.self c.self.inside.pools c.self.inside.store c.self.inside.ended.entries c.new.result.items c.new-2.result.items)) c.self.view_is
      (finished_stands b (ledger_data c.self.inside.exchange c.self.inside.pools c.self.inside.store c.self.inside.ended.entries c.self.inside.added.items c.self.inside.commits.items)
      (ledger_data c.drop_known.new.self c.self.inside.pools c.self.inside.store c.self.inside.ended.entries c.new.result.items c.new-2.result.items)
      (subst (IsLedgerOf b) (sym c.self.view_is) h) (ap (λ x. x.site) c.drop_known.ensures) refl refl refl c.new.ensures.items c.new-2.ensures.items);
  site = record {
    count = ap (λ x. x.count) c.drop_known.ensures ∙ ap (λ l. l.count) c.self.view_is;
    site = ap (λ x. x.site) c.drop_known.ensures ∙ ap (λ l. l.site) c.self.view_is;
  };
}
