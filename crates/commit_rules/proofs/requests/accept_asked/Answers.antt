use Rattle.std.proofs.Common.{◌∙◌, ap, sym, subst, true, false}
use Rattle.helios_model.specs.Exchange.{is_unfinished}
use Rattle.site_ledger.specs.Ledger.{IsLedgerOf, log_in}
use Rattle.commit_rules.proofs.Answering.{taken_at}
use Rattle.commit_rules.proofs.requests.accept_asked.Goals as goal

pub returns-then-holds-clause-answer : goal.returns-then-holds-clause-answer
returns-then-holds-clause-answer c =
    λ b is after.
    let last = c.in_ok-accepted.ensures.node b is after in
    taken_at b c.args.node c.in_ok-accepted.accepted c.args.p c.id-id.result true last c.id-id.ensures
    (sym (c.holds.ensures.stands b (subst (IsLedgerOf b) (sym c.ledger.ensures) last.stands.ledger) ∙ ap (λ l. is_unfinished (log_in b l) c.id-id.result) c.ledger.ensures)
    ∙ c.if-holds.true)

pub returns-else-holds-clause-answer : goal.returns-else-holds-clause-answer
returns-else-holds-clause-answer c =
    λ b is after.
    let last = c.in_ok-accepted.ensures.node b is after in
    taken_at b c.args.node c.in_ok-accepted.accepted c.args.p c.id-id.result false last c.id-id.ensures
    (sym (c.holds.ensures.stands b (subst (IsLedgerOf b) (sym c.ledger.ensures) last.stands.ledger) ∙ ap (λ l. is_unfinished (log_in b l) c.id-id.result) c.ledger.ensures)
    ∙ c.if-holds.false)
