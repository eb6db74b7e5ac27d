use Rattle.std.proofs.Common.{◌≡◌, ◌∙◌, ap, sym, subst}
use Rattle.helios_model.specs.Log.{current, current_value}
use Rattle.helios_model.specs.Spellable.{IsSpellableVersion}
use Rattle.site_ledger.specs.Ledger.{IsLedgerOf, log_in}
use Rattle.commit_rules.specs.Core.{IsCoreOf}
use Rattle.commit_rules.proofs.Standing.{IsAt, base_of, parts_at}
use Rattle.commit_rules.proofs.rules.Core.current.Goals as goal

pub returns-clause-version : goal.returns-clause-version
returns-clause-version c =
    λ plan n is.
    let s = c.self.inside.node in
    let at : IsAt plan n s = parts_at s c.self.inside.log_length plan n (subst (λ core. IsCoreOf core plan n) (sym c.self.view_is) is) c.self.invariant.1 c.self.invariant.2 in
    c.current.ensures.version (base_of n s) (subst (IsLedgerOf (base_of n s)) (sym c.ledger.ensures) at.stands.ledger)
    ∙ ap (λ l. current (log_in (base_of n s) l) c.args.key.now) c.ledger.ensures
    ∙ ap (λ m. current m.log c.args.key.now) at.node

pub returns-clause-spelled : goal.returns-clause-spelled
returns-clause-spelled c =
    let s = c.self.inside.node in
    let n = c.self.invariant.0.node in
    let is = c.self.invariant.0.is in
    let at : IsAt s.plan n s = parts_at s c.self.inside.log_length s.plan n is c.self.invariant.1 c.self.invariant.2 in
    let told : c.current.result.0 ≡ current n.log c.args.key.now =
    c.current.ensures.version (base_of n s) (subst (IsLedgerOf (base_of n s)) (sym c.ledger.ensures) at.stands.ledger)
    ∙ ap (λ l. current (log_in (base_of n s) l) c.args.key.now) c.ledger.ensures
    ∙ ap (λ m. current m.log c.args.key.now) at.node in
    subst IsSpellableVersion (sym told) (c.each_current_version_is_spellable.ensures s.plan n c.args.key.now is.within)

pub returns-clause-value : goal.returns-clause-value
returns-clause-value c =
    λ plan n is.
    let s = c.self.inside.node in
    let at : IsAt plan n s = parts_at s c.self.inside.log_length plan n (subst (λ core. IsCoreOf core plan n) (sym c.self.view_is) is) c.self.invariant.1 c.self.invariant.2 in
    c.current.ensures.value (base_of n s) (subst (IsLedgerOf (base_of n s)) (sym c.ledger.ensures) at.stands.ledger)
    ∙ ap (λ l. current_value (log_in (base_of n s) l) c.args.key.now) c.ledger.ensures
    ∙ ap (λ m. current_value m.log c.args.key.now) at.node
