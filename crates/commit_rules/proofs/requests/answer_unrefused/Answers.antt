use Rattle.std.proofs.Common.{◌∙◌, ap, find, sym, subst}
use Rattle.std.specs.Option.{option_map}
use Rattle.helios_model.specs.declared.records.Record.TheVariants.{Prepare}
use Rattle.helios_model.specs.Transactions.{conflict}
use Rattle.helios_model.specs.Log.{unfinished}
use Rattle.helios_model.specs.Request.{accept, asked, clash_refusal, next_id, unless_refused}
use Rattle.node_limits.specs.Limits.{IsAfter}
use Rattle.site_ledger.specs.Ledger.{IsLedgerOf, log_in}
use Rattle.site_node.specs.Node.{IsNodeOf, node_in}
use Rattle.commit_rules.specs.Answers.{Answers, AnswersAt}
use Rattle.commit_rules.proofs.Answering.{of_ok, opposed_at, unopposed_at}
use Rattle.commit_rules.proofs.requests.answer_unrefused.Goals as goal

pub returns-in-Some-clause-answer : goal.returns-in-Some-clause-answer
returns-in-Some-clause-answer c =
    λ b is sound.
    opposed_at b c.args.node c.args.reading c.args.ask c.in_ok-p.p c.in-Some.id is (c.in_ok-p.ensures.asked b is)
    (c.in-Some.ensures b (subst (IsLedgerOf b) (sym c.ledger.ensures) is.ledger)
    ∙ ap (λ l. option_map (λ q. q.id) (find (conflict c.in_ok-p.p) (unfinished (log_in b l)))) c.ledger.ensures)

pub returns-in-None-clause-answer : goal.returns-in-None-clause-answer
returns-in-None-clause-answer c =
    let s = c.args.node in
    of_ok c.accept_asked.result
    (λ t. (b : _) → IsNodeOf b s → IsAfter (log_in b s.ledger) (Prepare c.in_ok-p.p) → AnswersAt b s t.0 t.1 (λ n. accept s.plan n c.in_ok-p.p))
    (λ t. Answers s t.0 t.1 (λ n. unless_refused s.plan n (asked n.log (next_id s.plan n c.args.reading) c.args.ask) (clash_refusal n.log c.args.ask)))
    (λ t h b is sound.
    unopposed_at b s t.0 c.args.reading c.args.ask c.in_ok-p.p t.1 (c.in_ok-p.ensures.asked b is)
    (c.in-None.ensures b (subst (IsLedgerOf b) (sym c.ledger.ensures) is.ledger)
    ∙ ap (λ l. option_map (λ q. q.id) (find (conflict c.in_ok-p.p) (unfinished (log_in b l)))) c.ledger.ensures)
    (h b is (c.own_records_come_after.ensures s.plan (node_in b s) (Prepare c.in_ok-p.p) sound c.in_ok-p.ensures.own c.in_ok-p.ensures.above)))
    c.accept_asked.ensures.answer

pub transaction_for-requires-clause-sound : goal.transaction_for-requires-clause-sound
transaction_for-requires-clause-sound c = let h = c.requires.within in record { base = h.base; is = h.is; sound = h.within.node }
