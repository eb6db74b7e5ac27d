use Rattle.std.proofs.Common.{arith, sym}
use Rattle.std.proofs.lemmas.Result.{err_from_is_err_and}
use Rattle.link_codec.specs.AnswerReading.{answer_at}
use Rattle.link_codec.specs.Answers.{IsSpellableAnswer, answer_body, answer_kind}
use Rattle.link_codec.proofs.AnswerBodies.{answers_again, answers_spelled}
use Rattle.link_codec.proofs.WholeBodies.{body_left, body_refused, body_whole}
use Rattle.link_codec.proofs.answers.answer_of.Goals as goal

pub returns-in_err-answer : goal.returns-in_err-answer
returns-in_err-answer c =
    let p = err_from_is_err_and c.from_residual.result c.from_residual.ensures.1 in
    let refused = rw c.new-decoder.ensures at c.in_err-answer.ensures in
    let again = answers_again c.messages_are_read_again.ensures in
    rw (p.1, p.2) (body_refused answer_kind answer_body IsSpellableAnswer answer_at again c.in_err-answer.field-0.0 c.args.kind c.args.body.now refused)

pub returns-then-not-is_done : goal.returns-then-not-is_done
returns-then-not-is_done c =
    let read = rw c.new-decoder.ensures at c.in_ok-answer.ensures in
    let again = answers_again c.messages_are_read_again.ensures in
    body_left answer_kind answer_body IsSpellableAnswer answer_at again c.args.kind c.args.body.now c.in_ok-answer.answer c.answer.new.self.rest.now read (sym c.if-not-is_done.ensures)

pub returns : goal.returns
returns c =
    let read = rw c.new-decoder.ensures at c.in_ok-answer.ensures in
    let spelled = answers_spelled c.what_is_read_is_a_message.ensures in
    body_whole answer_kind answer_body IsSpellableAnswer answer_at 3 spelled c.args.kind c.args.body.now c.in_ok-answer.answer c.answer.new.self.rest.now (λ i. omega (arith, c.type_inv.body i)) c.requires.some c.requires.few read (sym c.if-not-is_done.ensures)
