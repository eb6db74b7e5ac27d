-- What is answered to an input that was read whole is the end of the command over it.
use Rattle.helios_top.proofs.Inputs.{answered_input}
use Rattle.helios_top.proofs.top.read_and_answer.Goals as goal

pub returns-in-Ok-Some-clause-ends : goal.returns-in-Ok-Some-clause-ends
returns-in-Ok-Some-clause-ends g c =
    let whole = rw c.in-Ok-Some.field-0-is at c.in-Ok-Some.ensures.whole in
    let fits = rw c.in-Ok-Some.field-0-is at c.in-Ok-Some.ensures.fits in
    answered_input c.args.command (g.S.Source.seen c.args.input.now) (g.S.Source.seen c.read_whole.new.source) c.in-Ok-Some.bytes.items c.as_slice.result.now
    _ c.answer.result c.answered.result c.requires whole fits c.as_slice.ensures.value c.as_slice.ensures.len
    c.answer.ensures.ends c.read_whole.ensures.most c.answered.ensures
