use Rattle.std.proofs.Common.{ℕ, List, [], Result, sym, ◌∙◌}
use Rattle.std.proofs.lemmas.Result.{err_from_is_err_and}
use Rattle.std.specs.Int.{w64}
use Rattle.helios_model.specs.Limits.{last_time}
use Rattle.log_records.specs.declared.faults.DecodeFault.{DecodeFault}
use Rattle.log_records.specs.Fields.{each_after, is_within, number_at}
use Rattle.log_records.specs.Messages.{times_at}
use Rattle.log_records.proofs.Fields.{each_done, each_fails, each_more}
use Rattle.log_records.proofs.decoder.Decoder.times_each.Goals as goal

abbrev item : ℕ → List ℕ → List ℕ → Result (ℕ × List ℕ) DecodeFault
item whole before = number_at w64 (is_within 0 last_time) whole

pub returns-in_err-time : goal.returns-in_err-time
unfolding times_at
returns-in_err-time c =
    let p = err_from_is_err_and c.from_residual-in_err-time.result c.from_residual-in_err-time.ensures.1 in
    let told = rw c.loop.invariant.1 at c.in_err-time.ensures in
    rw (p.1, p.2) (each_fails (item c.args.self.now.whole) c.in_err-time.field-0.0 c.args.count c.loop.counter c.loop.times.items c.loop.self.rest.now (each_after (item c.args.self.now.whole) c.args.count [] c.args.self.now.rest.now) c.loop-test.true c.loop.invariant.0 told)

pub loop-preserved : goal.loop-preserved
loop-preserved c =
    let told = rw c.loop.invariant.1 at c.in_ok-time.ensures.0 in
    let more = each_more (item c.args.self.now.whole) c.args.count c.loop.counter c.loop.times.items c.loop.self.rest.now c.in_ok-time.time c.long.new.self.rest.now c.loop-test.true told in
    (rw c.in_ok-push.ensures.items (sym more ∙ c.loop.invariant.0), c.in_ok-time.ensures.1 ∙ c.loop.invariant.1)

pub returns : goal.returns
unfolding times_at
returns c = (sym c.loop.invariant.0 ∙ each_done (item c.args.self.now.whole) c.args.count c.loop.counter c.loop.times.items c.loop.self.rest.now c.loop-test.false, c.loop.invariant.1)
