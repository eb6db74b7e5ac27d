use Rattle.std.proofs.Common.{◌∙◌, ap, refl, inl, inr, arith}
use Rattle.std.proofs.lemmas.Result.{err_from_is_err_and}
use Rattle.node_journal.specs.Positions.{Position}
use Rattle.node_host.proofs.Reading.{failed_on, frame_refused, passed_on, payload_refused, quiet_on, read_more, recovered_more}
use Rattle.node_host.proofs.opening.recover.Goals as goal

pub returns-in_err-recovery-in-Frame-clause-interrupted : goal.returns-in_err-recovery-in-Frame-clause-interrupted
returns-in_err-recovery-in-Frame-clause-interrupted g c =
    let p = err_from_is_err_and c.from_residual-in_err-recovery-in-Frame.result c.from_residual-in_err-recovery-in-Frame.ensures.1 in
    rw (p.1, p.2)
    (payload_refused c.args.first.core.plan c.args.site c.args.first c.args.reading.gate c.frames.reading.gate c.frames.recovery
    (g.D.Disk.state c.args.disk.now) (g.D.Disk.state c.frames.disk) c.frames.invariant.same c.frames.invariant.read
    c.frames.reading c.in-Frame.behind c.frames.recovery.core.plan c.in-Frame.at c.in-Frame.payload c.in_err-recovery-in-Frame.field-0.0
    refl c.frames.invariant.plan (rw c.in-Frame.is at c.in_ok-journal.ensures.forward) c.in_err-recovery-in-Frame.ensures.none
    (rw c.in-Frame.is at c.in_ok-journal.ensures.found))

pub returns-in_err-journal-clause-interrupted : goal.returns-in_err-journal-clause-interrupted
returns-in_err-journal-clause-interrupted g c =
    let p = err_from_is_err_and c.from_residual.result c.from_residual.ensures.1 in
    rw (p.1, p.2)
    (frame_refused c.args.first.core.plan c.args.site c.args.first c.args.reading.gate c.frames.reading.gate c.frames.recovery
    (g.D.Disk.state c.args.disk.now) (g.D.Disk.state c.frames.disk) c.frames.invariant.same c.frames.invariant.read
    c.frames.reading c.in_err-journal.field-0.0 refl c.in_err-journal.ensures.found)

pub returns-in_err-journal-clause-failed : goal.returns-in_err-journal-clause-failed
returns-in_err-journal-clause-failed g c =
    let p = err_from_is_err_and c.from_residual.result c.from_residual.ensures.1 in
    failed_on (g.D.Disk.outlook c.args.disk.now) (g.D.Disk.outlook c.frames.disk) c.from_residual.result c.next_into.result
    (passed_on c.from_residual.result c.next_into.result p.0 c.in_err-journal.field-0.0 p.1 p.2 c.in_err-journal.was)
    c.frames.invariant.quiet c.next_into.ensures.failed

pub frames-preserved : goal.frames-preserved
frames-preserved g c =
    let goes = rw c.in-Frame.is at c.in_ok-journal.ensures.forward in
    record {
      here = rw c.in-Frame.is at c.in_ok-journal.ensures.ready;
      read = read_more c.args.first.core.plan c.args.site c.args.first c.args.reading.gate c.frames.reading.gate c.frames.recovery
          (g.D.Disk.state c.args.disk.now) (g.D.Disk.state c.frames.disk) c.frames.invariant.same c.frames.invariant.read
          c.frames.recovery.core.plan c.in-Frame.behind.gate c.in-Frame.payload c.in_ok-recovery-in-Frame.recovery
          c.frames.invariant.plan c.in_ok-recovery-in-Frame.ensures.takes (rw c.in-Frame.is at c.in_ok-journal.ensures.read_on);
      recovered = λ is. recovered_more c.args.first.core.plan c.args.site c.frames.recovery.core.plan c.in-Frame.payload c.frames.recovery c.in_ok-recovery-in-Frame.recovery
          c.frames.invariant.plan c.in_ok-recovery-in-Frame.ensures.takes (c.frames.invariant.recovered is);
      kept = c.in_ok-recovery-in-Frame.ensures.kept ∙ c.frames.invariant.kept;
      plan = c.in_ok-recovery-in-Frame.ensures.plan ∙ c.frames.invariant.plan;
      site = c.in_ok-recovery-in-Frame.ensures.site ∙ c.frames.invariant.site;
      limit = ap (λ (p : Position). p.limit) goes.1 ∙ c.frames.invariant.limit;
      room = omega (arith, c.in_ok-recovery-in-Frame.ensures.number, c.frames.invariant.room, ap (λ (p : Position). p.gate) goes.1);
      low = goes.2;
      same = c.in_ok-journal.ensures.same ∙ c.frames.invariant.same;
      same_past = c.in_ok-journal.ensures.same_past ∙ c.frames.invariant.same_past;
      rooms = c.in_ok-journal.ensures.room ∙ c.frames.invariant.rooms;
      keeps = c.in_ok-journal.ensures.keeps ∙ c.frames.invariant.keeps;
      steady = elim c.in_ok-journal.ensures.steady [ inl failed ↦ absurd (cc failed) | inr stands ↦ stands ∙ c.frames.invariant.steady ];
      quiet = quiet_on _ _ _ c.frames.invariant.quiet c.in_ok-journal.ensures.quiet;
    }
