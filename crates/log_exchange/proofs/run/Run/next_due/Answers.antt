use Rattle.std.proofs.Common.{◌∙◌, sym}
use Rattle.log_exchange.proofs.Passing.{next_is, next_passed}
use Rattle.log_exchange.proofs.run.Run.next_due.Goals as goal

pub loop-place-preserved : goal.loop-place-preserved
loop-place-preserved c =
    next_passed c.args.known c.args.self.now c.loop-place.place (sym c.is_passed.ensures.value ∙ c.loop-place-test.true) ∙ c.loop-place.invariant

pub returns : goal.returns
returns c = next_is c.args.known c.args.self.now c.args.from c.loop-place.place c.loop-place.invariant (sym c.is_passed.ensures.value ∙ c.loop-place-test.false)
