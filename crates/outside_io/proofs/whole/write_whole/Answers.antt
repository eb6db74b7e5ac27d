use Rattle.std.proofs.Common.{subst, sym, List, ℕ, ◌∙◌}
use Rattle.outside_io.specs.Whole.{HasWritten}
use Rattle.outside_io.proofs.Written.{written_more, not_empty}
use Rattle.outside_io.proofs.whole.write_whole.Goals as goal

pub loop-rest-preserved : goal.loop-rest-preserved
loop-rest-preserved g c = record {
  so_far = (let P : List ℕ → Type 0 = HasWritten (g.K.Sink.seen c.args.sink.now).taken (g.K.Sink.seen c.write.new.self).taken c.args.text.now in
      subst P (sym c.split_at.ensures.back) (written_more _ _ _ _ _ _ c.loop-rest.invariant.so_far c.in_ok-count.ensures.bytes));
  tells = c.in_ok-count.ensures.tells ∙ c.loop-rest.invariant.tells;
  steady = c.in_ok-count.ensures.cause.steady ∙ c.loop-rest.invariant.steady;
  count = λ _. c.in_ok-count.ensures.count;
  empty = λ none. absurd (not_empty c.loop-rest.rest.now c.is_empty.result (c.loop-rest.invariant.empty none).1 c.is_empty.ensures c.loop-rest-test.true);
}
