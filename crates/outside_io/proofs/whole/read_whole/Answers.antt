use Rattle.std.proofs.Common.{arith, rules, refl, sym, inl, inr, ◌∙◌}
use Rattle.std.proofs.lemmas.Result.{err_from_is_err_and}
use Rattle.outside_io.proofs.Reading.{same_fault, over_limit, stays_past, takes_more, taken_grown, taken_nil}
use Rattle.outside_io.proofs.whole.read_whole.Goals as goal

pub loop-buffer-init : goal.loop-buffer-init
loop-buffer-init g c = record {
  taken = taken_nil _ _ c.new-bytes.ensures.items;
  tells = search rules;
  fits = omega arith;
  steady = refl;
  count = λ held. held;
  room = search rules;
}

pub returns-in_err-count-clause-most : goal.returns-in_err-count-clause-most
returns-in_err-count-clause-most g c = takes_more _ _ _ _ _ _ c.loop-buffer.invariant.taken c.in_err-count.ensures.most (omega (arith, c.loop-buffer.bytes.ok.0))

pub returns-then-count-eq0-clause-whole : goal.returns-then-count-eq0-clause-whole
returns-then-count-eq0-clause-whole g c = record {
  taken = taken_grown _ _ _ _ _ _ c.loop-buffer.invariant.taken c.in_ok-count.ensures.gives;
  ended = c.in_ok-count.ensures.end c.if-count-eq0.true (omega arith);
}

pub returns-then-count-eq0-clause-most : goal.returns-then-count-eq0-clause-most
returns-then-count-eq0-clause-most g c = takes_more _ _ _ _ _ _ c.loop-buffer.invariant.taken c.in_ok-count.ensures.most (omega (arith, c.loop-buffer.bytes.ok.0))

pub returns-then-len-limit-clause-over : goal.returns-then-len-limit-clause-over
returns-then-len-limit-clause-over g c = over_limit _ _ _ _ (taken_grown _ _ _ _ _ _ c.loop-buffer.invariant.taken c.in_ok-count.ensures.gives) (omega (arith, c.read_piece.new.bytes.ok.0))

pub returns-then-len-limit-clause-most : goal.returns-then-len-limit-clause-most
returns-then-len-limit-clause-most g c = takes_more _ _ _ _ _ _ c.loop-buffer.invariant.taken c.in_ok-count.ensures.most (omega (arith, c.loop-buffer.bytes.ok.0))

pub loop-buffer-preserved : goal.loop-buffer-preserved
loop-buffer-preserved g c = record {
  taken = taken_grown _ _ _ _ _ _ c.loop-buffer.invariant.taken c.in_ok-count.ensures.gives;
  tells = c.in_ok-count.ensures.tells ∙ c.loop-buffer.invariant.tells;
  fits = omega arith;
  steady = stays_past _ _ _ _ c.in_ok-count.ensures.steady c.loop-buffer.invariant.steady;
  count = λ _. c.in_ok-count.ensures.count;
  room = omega arith;
}

pub returns-in_err-count-clause-unasked : goal.returns-in_err-count-clause-unasked
returns-in_err-count-clause-unasked g c =
    let p = err_from_is_err_and c.from_residual-in_err-count.result c.from_residual-in_err-count.ensures.1 in
    rw p.1 (λ failed. takes_more _ _ _ _ _ _ c.loop-buffer.invariant.taken (c.in_err-count.ensures.unmoved (same_fault _ _ _ failed p.2)) (omega (arith, c.loop-buffer.bytes.ok.0)))

pub returns-in_err-count-clause-steady : goal.returns-in_err-count-clause-steady
returns-in_err-count-clause-steady g c =
    let p = err_from_is_err_and c.from_residual-in_err-count.result c.from_residual-in_err-count.ensures.1 in
    rw p.1 (elim c.in_err-count.ensures.steady [ inl failed ↦ inl (same_fault _ _ _ failed (sym p.2)) | inr stands ↦ inr (stands ∙ c.loop-buffer.invariant.steady) ])

pub returns-then-count-eq0-clause-steady : goal.returns-then-count-eq0-clause-steady
returns-then-count-eq0-clause-steady g c = inr (stays_past _ _ _ _ c.in_ok-count.ensures.steady c.loop-buffer.invariant.steady)

pub returns-then-len-limit-clause-steady : goal.returns-then-len-limit-clause-steady
returns-then-len-limit-clause-steady g c = inr (stays_past _ _ _ _ c.in_ok-count.ensures.steady c.loop-buffer.invariant.steady)
