use Rattle.std.proofs.Common.{◌∙◌, ap, sym, subst}
use Rattle.helios_model.specs.declared.entries.Input.TheVariants.{Pull, Push, Status}
use Rattle.helios_model.specs.declared.entries.Reply.TheVariants.{State}
use Rattle.helios_model.specs.Node.{is_spent, status}
use Rattle.helios_model.specs.Step.{by_clock, step}
use Rattle.site_ledger.specs.Ledger.{IsLedgerOf, log_in}
use Rattle.site_node.specs.Node.{node_in}
use Rattle.commit_rules.specs.Answers.{Answers}
use Rattle.commit_rules.proofs.Answering.{entry_at, of_ok}
use Rattle.commit_rules.proofs.answers.answer.Goals as goal

pub returns-in-Status-clause-answer : goal.returns-in-Status-clause-answer
returns-in-Status-clause-answer c =
    λ b is sound.
    let s = c.args.node in
    entry_at b s s (State c.status.result) c.args.entry (Status c.in-Status.id) c.in-Status.is
    (record {
      stands = is;
      answer = ap (λ state. record { reply = State state; node = node_in b s })
          (sym (c.status.ensures b s.table (subst (IsLedgerOf b) (sym c.ledger.ensures) is.ledger)
          ∙ ap (λ l. status (record { site = l.site; log = log_in b l; table = s.table }) c.in-Status.id) c.ledger.ensures));
    })

pub returns-in-Pull-clause-answer : goal.returns-in-Pull-clause-answer
returns-in-Pull-clause-answer c =
    let s = c.args.node in
    of_ok c.unless_spent_pull.result
    (λ t. Answers s t.0 t.1 (λ n. by_clock s.plan n c.args.entry.reading (Pull c.in-Pull.to) (is_spent s.plan n)))
    (λ t. Answers s t.0 t.1 (λ n. step s.plan n c.args.entry))
    (λ t h b is sound. entry_at b s t.0 t.1 c.args.entry (Pull c.in-Pull.to) c.in-Pull.is (h b is sound)) c.unless_spent_pull.ensures.answer

pub returns-in-Push-clause-answer : goal.returns-in-Push-clause-answer
returns-in-Push-clause-answer c =
    let s = c.args.node in
    of_ok c.unless_spent_push.result
    (λ t. Answers s t.0 t.1 (λ n. by_clock s.plan n c.args.entry.reading (Push c.in-Push.m) (is_spent s.plan n)))
    (λ t. Answers s t.0 t.1 (λ n. step s.plan n c.args.entry))
    (λ t h b is sound. entry_at b s t.0 t.1 c.args.entry (Push c.in-Push.m) c.in-Push.is (h b is sound)) c.unless_spent_push.ensures.answer

pub answer_get-requires : goal.answer_get-requires
answer_get-requires c = let h = c.requires.within in record { base = h.base; is = h.is; sound = h.within.node }

pub unless_spent_push-requires-clause-sound : goal.unless_spent_push-requires-clause-sound
unless_spent_push-requires-clause-sound c = let h = c.requires.within in record { base = h.base; is = h.is; sound = h.within.node }
