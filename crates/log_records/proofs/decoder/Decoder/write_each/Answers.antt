use Rattle.std.proofs.Common.{[], sym, ◌∙◌}
use Rattle.std.proofs.lemmas.Result.{err_from_is_err_and}
use Rattle.log_records.specs.Fields.{each_after}
use Rattle.log_records.specs.Items.{write_at}
use Rattle.log_records.proofs.Fields.{each_done, each_fails, each_more}
use Rattle.log_records.proofs.decoder.Decoder.write_each.Goals as goal

pub returns-in_err-item : goal.returns-in_err-item
returns-in_err-item c =
    let p = err_from_is_err_and c.from_residual-in_err-item.result c.from_residual-in_err-item.ensures.1 in
    let told = rw (c.loop.invariant.1, c.as_slice.ensures.value) at c.in_err-item.ensures in
    rw (p.1, p.2) (each_fails (write_at c.args.self.now.whole) c.in_err-item.field-0.0 c.args.count c.loop.counter c.loop.items.items c.loop.self.rest.now (each_after (write_at c.args.self.now.whole) c.args.count [] c.args.self.now.rest.now) c.loop-test.true c.loop.invariant.0 told)

pub loop-preserved : goal.loop-preserved
loop-preserved c =
    let told = rw (c.loop.invariant.1, c.as_slice.ensures.value) at c.in_ok-item.ensures.0 in
    let more = each_more (write_at c.args.self.now.whole) c.args.count c.loop.counter c.loop.items.items c.loop.self.rest.now c.in_ok-item.item c.write.new.self.rest.now c.loop-test.true told in
    (rw c.in_ok-push.ensures.items (sym more ∙ c.loop.invariant.0), c.in_ok-item.ensures.1 ∙ c.loop.invariant.1)

pub returns : goal.returns
returns c = (sym c.loop.invariant.0 ∙ each_done (write_at c.args.self.now.whole) c.args.count c.loop.counter c.loop.items.items c.loop.self.rest.now c.loop-test.false, c.loop.invariant.1)
