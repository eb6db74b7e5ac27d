use Rattle.std.proofs.Common.{◌∙◌, ap, sym, subst, [], ◌∷◌, ◌++◌}
use Rattle.helios_model.specs.declared.records.Record.TheVariants.{Prepare}
use Rattle.node_limits.specs.Limits.{IsAfter}
use Rattle.log_exchange.specs.Kept.{appended}
use Rattle.site_ledger.specs.Ledger.{IsLedgerOf, holds_id, log_in}
use Rattle.site_ledger.proofs.Growth.{fresh_held, prepare_stands}
use Rattle.site_ledger.proofs.ledger.Ledger.append_prepare.Goals as goal

pub add-requires : goal.add-requires
add-requires c =
    ap (λ p. holds_id c.self.inside.pools p.id) c.in_ok-held.ensures ∙ ap (λ l. holds_id l.pools c.args.p.id) c.self.view_is
    ∙ fresh_held c.requires.after.base c.args.self c.args.p c.requires.after.is c.requires.after.after

pub invariant_of-self : goal.invariant_of-self
invariant_of-self c = (
  c.self.invariant.0,
  record {
    base = c.requires.after.base;
    is = prepare_stands c.a_prepare_waits_behind_the_rest.ensures c.requires.after.base c.self.inside.exchange c.append.new.self c.self.inside.pools c.add.new.self c.self.inside.store
        c.self.inside.ended.entries c.self.inside.added.items c.push.new.self.items c.self.inside.commits.items c.args.p
        (subst (IsLedgerOf c.requires.after.base) (sym c.self.view_is) c.requires.after.is)
        (subst (λ l. IsAfter (log_in c.requires.after.base l) (Prepare c.args.p)) (sym c.self.view_is) c.requires.after.after)
        (c.in_ok-append.ensures.ok ∙ ap (λ q. appended c.self.inside.exchange (Prepare q)) c.in_ok-told.ensures)
        c.in_ok-push.ensures.items
        (c.in_ok-add.ensures.added ∙ ap (λ q. c.self.inside.pools ++ q ∷ []) c.in_ok-held.ensures);
  },
)

pub returns : goal.returns
returns c = record {
  added = c.in_ok-push.ensures.items ∙ ap (λ l. l.added ++ Prepare c.args.p ∷ []) c.self.view_is;
  stands = λ b h after. prepare_stands c.a_prepare_waits_behind_the_rest.ensures b c.self.inside.exchange c.append.new.self c.self.inside.pools c.add.new.self c.self.inside.store
      c.self.inside.ended.entries c.self.inside.added.items c.push.new.self.items c.self.inside.commits.items c.args.p
      (subst (IsLedgerOf b) (sym c.self.view_is) h)
      (subst (λ l. IsAfter (log_in b l) (Prepare c.args.p)) (sym c.self.view_is) after)
      (c.in_ok-append.ensures.ok ∙ ap (λ q. appended c.self.inside.exchange (Prepare q)) c.in_ok-told.ensures)
      c.in_ok-push.ensures.items
      (c.in_ok-add.ensures.added ∙ ap (λ q. c.self.inside.pools ++ q ∷ []) c.in_ok-held.ensures);
  site = record {
    count = ap (λ x. x.count) c.in_ok-append.ensures.ok ∙ ap (λ l. l.count) c.self.view_is;
    site = ap (λ x. x.site) c.in_ok-append.ensures.ok ∙ ap (λ l. l.site) c.self.view_is;
  };
}
