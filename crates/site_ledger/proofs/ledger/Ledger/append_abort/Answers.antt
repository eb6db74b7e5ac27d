use Rattle.std.proofs.Common.{◌∙◌, ap, sym, subst, cond, Some, None, [], ◌∷◌, ◌++◌}
use Rattle.std.specs.Option.{option_or}
use Rattle.helios_model.specs.declared.entries.State.TheVariants.{Aborted}
use Rattle.helios_model.specs.declared.records.Record.TheVariants.{Abort}
use Rattle.helios_model.specs.Ids.{same_id}
use Rattle.site_ledger.specs.Ledger.{AreKnown, IsLedgerOf, end_in, log_in}
use Rattle.site_ledger.proofs.Growth.{abort_stands}
use Rattle.site_ledger.proofs.ledger.Ledger.append_abort.Goals as goal

pub invariant_of-self : goal.invariant_of-self
invariant_of-self c = (
  c.in_ok-keep_end.ensures.ordered c.self.invariant.0,
  record {
    base = c.requires.known.base;
    is = abort_stands c.an_end_leaves_the_rest.ensures c.requires.known.base c.self.inside.exchange c.append.new.self c.self.inside.pools c.remove.new.self c.self.inside.store
        c.self.inside.ended.entries c.keep_end.new.ended.entries c.self.inside.added.items c.push.new.self.items c.self.inside.commits.items c.args.id.now c.args.time c.args.cause.now
        (subst (IsLedgerOf c.requires.known.base) (sym c.self.view_is) c.requires.known.is)
        (subst (λ l. AreKnown (log_in c.requires.known.base l) (c.args.id.now ∷ [])) (sym c.self.view_is) c.requires.known.known)
        c.in_ok-append.ensures.ok c.in_ok-push.ensures.items c.remove.ensures.removed
        (λ at. c.in_ok-keep_end.ensures.kept at
        ∙ ap (λ s. option_or (end_in c.self.inside.ended.entries at) (cond (same_id c.args.id.now (record { site = s; time = at })) (Some (Aborted c.args.cause.now)) None)) c.site-own.ensures.value);
  },
)

pub returns : goal.returns
returns c = record {
  added = c.in_ok-push.ensures.items ∙ ap (λ l. l.added ++ Abort c.args.id.now c.args.time c.args.cause.now ∷ []) c.self.view_is;
  stands = λ b h known. abort_stands c.an_end_leaves_the_rest.ensures b c.self.inside.exchange c.append.new.self c.self.inside.pools c.remove.new.self c.self.inside.store
      c.self.inside.ended.entries c.keep_end.new.ended.entries c.self.inside.added.items c.push.new.self.items c.self.inside.commits.items c.args.id.now c.args.time c.args.cause.now
      (subst (IsLedgerOf b) (sym c.self.view_is) h)
      (subst (λ l. AreKnown (log_in b l) (c.args.id.now ∷ [])) (sym c.self.view_is) known)
      c.in_ok-append.ensures.ok c.in_ok-push.ensures.items c.remove.ensures.removed
      (λ at. c.in_ok-keep_end.ensures.kept at
      ∙ ap (λ s. option_or (end_in c.self.inside.ended.entries at) (cond (same_id c.args.id.now (record { site = s; time = at })) (Some (Aborted c.args.cause.now)) None)) c.site-own.ensures.value);
  site = record {
    count = ap (λ x. x.count) c.in_ok-append.ensures.ok ∙ ap (λ l. l.count) c.self.view_is;
    site = ap (λ x. x.site) c.in_ok-append.ensures.ok ∙ ap (λ l. l.site) c.self.view_is;
  };
}
