use Rattle.std.proofs.Common.{◌∙◌, ap, sym, subst, length, filter}
use Rattle.helios_model.specs.Log.{is_own, unfinished}
use Rattle.helios_model.specs.Node.{clock, own_open}
use Rattle.site_ledger.specs.Ledger.{IsLedgerOf, log_in}
use Rattle.site_node.specs.Node.{node_in}
use Rattle.commit_rules.specs.Core.{IsCoreOf}
use Rattle.commit_rules.proofs.Standing.{IsAt, base_of, parts_at}
use Rattle.commit_rules.proofs.rules.Core.summary.Goals as goal

pub returns : goal.returns
returns c =
    λ plan n is.
    let s = c.self.inside.node in
    let stands = subst (λ core. IsCoreOf core plan n) (sym c.self.view_is) is in
    let at : IsAt plan n s = parts_at s c.self.inside.log_length plan n stands c.self.invariant.1 c.self.invariant.2 in
    record {
      time = c.of.ensures ∙ c.clock.ensures ∙ ap (λ p. clock p (node_in (base_of n s) s)) at.of_plan ∙ ap (clock plan) at.node;
      log = stands.of_length;
      pending =
          c.own_open.ensures (base_of n s) (subst (IsLedgerOf (base_of n s)) (sym c.ledger.ensures) at.stands.ledger)
          ∙ ap (λ l. length (filter (is_own l.site) (unfinished (log_in (base_of n s) l)))) c.ledger.ensures
          ∙ ap (λ m. length (own_open m)) at.node;
    }
