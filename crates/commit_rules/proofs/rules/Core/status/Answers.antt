use Rattle.std.proofs.Common.{◌∙◌, ap, sym, subst}
use Rattle.helios_model.specs.Node.{status}
use Rattle.site_ledger.specs.Ledger.{IsLedgerOf, log_in}
use Rattle.commit_rules.specs.Core.{IsCoreOf}
use Rattle.commit_rules.proofs.Standing.{IsAt, base_of, parts_at}
use Rattle.commit_rules.proofs.rules.Core.status.Goals as goal

pub returns : goal.returns
returns c =
    λ plan n is.
    let s = c.self.inside.node in
    let at : IsAt plan n s = parts_at s c.self.inside.log_length plan n (subst (λ core. IsCoreOf core plan n) (sym c.self.view_is) is) c.self.invariant.1 c.self.invariant.2 in
    c.status.ensures (base_of n s) s.table (subst (IsLedgerOf (base_of n s)) (sym c.ledger.ensures) at.stands.ledger)
    ∙ ap (λ l. status (record { site = l.site; log = log_in (base_of n s) l; table = s.table }) c.args.id) c.ledger.ensures
    ∙ ap (λ m. status m c.args.id) at.node
