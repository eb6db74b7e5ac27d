use Rattle.helios_model.specs.Request.{asked, clash_refusal, next_id, request, unless_refused}
use Rattle.commit_rules.specs.Answers.{Answers}
use Rattle.commit_rules.proofs.Answering.{of_ok, unrefused_at}
use Rattle.commit_rules.proofs.requests.answer_request.Goals as goal

pub returns-in-None-clause-answer : goal.returns-in-None-clause-answer
returns-in-None-clause-answer c =
    let s = c.args.node in
    of_ok c.answer_unrefused.result
    (λ t. Answers s t.0 t.1 (λ n. unless_refused s.plan n (asked n.log (next_id s.plan n c.args.reading) c.args.ask) (clash_refusal n.log c.args.ask)))
    (λ t. Answers s t.0 t.1 (λ n. request s.plan n c.args.reading c.args.ask))
    (λ t h b is sound. unrefused_at b s t.0 c.args.reading c.args.ask t.1 c.in_ok-reply.field-0 c.in-None.is (c.in_ok-reply.ensures b is) (h b is sound))
    c.answer_unrefused.ensures.answer
