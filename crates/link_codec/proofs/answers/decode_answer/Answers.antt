use Rattle.std.proofs.Common.{arith}
use Rattle.link_codec.specs.Answers.{IsSpellableAnswer, answer_body, answer_kind, answer_table}
use Rattle.link_codec.proofs.WholeBodies.{value_found}
use Rattle.link_codec.proofs.answers.decode_answer.Goals as goal

pub returns : goal.returns
returns c =
    let at = c.in_ok-kind.ensures in
    value_found answer_kind answer_body IsSpellableAnswer answer_table c.args.input.now c.in_ok-kind.kind at.0 c.in_ok-kind.body.now at.1 at.3 (λ i. omega (arith, c.type_inv.input i)) c.in_ok-answer.answer c.in_ok-answer.ensures
