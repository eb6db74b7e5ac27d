use Rattle.std.proofs.Common.{[], sym, ◌∙◌, subst, List}
use Rattle.std.proofs.lemmas.Result.{err_from_is_err_and}
use Rattle.helios_model.specs.declared.records.Record.{Record}
use Rattle.log_records.specs.Fields.{each_after}
use Rattle.log_records.specs.Messages.{AreLatest, next_at}
use Rattle.log_records.proofs.Fields.{each_done, each_fails, each_more}
use Rattle.log_records.proofs.decoder.Decoder.next_each.Goals as goal

pub returns-in_err-record : goal.returns-in_err-record
returns-in_err-record c =
    let item = next_at c.args.count c.args.cover.now c.args.self.now.whole in
    let p = err_from_is_err_and c.from_residual-in_err-record.result c.from_residual-in_err-record.ensures.1 in
    let told = rw c.loop.invariant.whole at (c.in_err-record.ensures.taken c.loop.records.items c.loop.invariant.noted) in
    rw (p.1, p.2) (each_fails item c.in_err-record.field-0.0 c.args.many c.loop.counter c.loop.records.items c.loop.self.rest.now (each_after item c.args.many [] c.args.self.now.rest.now) c.loop-test.true c.loop.invariant.read told)

pub loop-preserved : goal.loop-preserved
loop-preserved c =
    let item = next_at c.args.count c.args.cover.now c.args.self.now.whole in
    let taken = c.in_ok-record.ensures.taken c.loop.records.items c.loop.invariant.noted in
    let told = rw c.loop.invariant.whole at taken.0 in
    let more = each_more item c.args.many c.loop.counter c.loop.records.items c.loop.self.rest.now c.in_ok-record.record c.next.new.self.rest.now c.loop-test.true told in
    record {
      read = rw c.in_ok-push.ensures.items (sym more ∙ c.loop.invariant.read);
      whole = taken.1 ∙ c.loop.invariant.whole;
      noted = subst (λ (records : List Record). AreLatest records c.next.new.latest.times) (sym c.in_ok-push.ensures.items) (c.in_ok-record.ensures.noted c.loop.records.items c.loop.invariant.noted);
    }

pub returns : goal.returns
returns c =
    let item = next_at c.args.count c.args.cover.now c.args.self.now.whole in
    (sym c.loop.invariant.read ∙ each_done item c.args.many c.loop.counter c.loop.records.items c.loop.self.rest.now c.loop-test.false, c.loop.invariant.whole)
