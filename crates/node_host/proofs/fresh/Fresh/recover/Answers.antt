use Rattle.std.proofs.lemmas.Result.{IfOk-weaker, err_from_is_err_and}
use Rattle.node_host.proofs.Standing.{reads_through, recovered_from, stops_behind, stops_head, weaker_err}
use Rattle.node_host.proofs.fresh.Fresh.recover.Goals as goal

pub returns-in_err-test_head-clause-stops : goal.returns-in_err-test_head-clause-stops
returns-in_err-test_head-clause-stops g c =
    let p = err_from_is_err_and c.from_residual.result c.from_residual.ensures.1 in
    rw (p.1, p.2)
    (stops_head c.args.self c.self.inside.core c.self.inside.fingerprint c.self.inside.site c.self.inside.count (cc) c.self.invariant
    c.args.payload c.args.reading.gate (g.D.Disk.state c.args.disk.now) c.requires.begins c.in_err-test_head.field-0.0 c.in_err-test_head.ensures.none)

pub returns-clause-through : goal.returns-clause-through
returns-clause-through g c =
    IfOk-weaker c.recover.result _ _
    (λ r why. reads_through c.args.self c.self.inside.core c.self.inside.fingerprint c.self.inside.site c.self.inside.count (cc) c.self.invariant
    c.args.payload c.args.reading.gate (g.D.Disk.state c.args.disk.now) c.requires.begins
    c.new-first.result c.new-first.ensures.core c.new-first.ensures.none c.new-first.ensures.last (rw c.new-first.ensures.log c.requires.empty)
    c.in_ok-test_head.ensures.head r.0 r.1.gate why)
    c.recover.ensures.through

pub returns-clause-stops : goal.returns-clause-stops
returns-clause-stops g c =
    weaker_err _ _ c.recover.result
    (λ fault why. stops_behind c.args.self c.self.inside.core c.self.inside.fingerprint c.self.inside.site c.self.inside.count (cc) c.self.invariant
    c.args.payload c.args.reading.gate (g.D.Disk.state c.args.disk.now) c.requires.begins
    c.new-first.result c.new-first.ensures.core c.new-first.ensures.none c.new-first.ensures.last (rw c.new-first.ensures.log c.requires.empty)
    c.in_ok-test_head.ensures.head fault why)
    c.recover.ensures.interrupted

pub returns-clause-recovered : goal.returns-clause-recovered
returns-clause-recovered g c =
    IfOk-weaker c.recover.result _ _
    (λ r on. recovered_from c.args.self c.self.inside.core c.self.inside.fingerprint c.self.inside.site c.self.inside.count (cc) c.self.invariant
    c.args.payload c.args.reading.gate (g.D.Disk.state c.args.disk.now) c.requires.begins
    c.new-first.result c.new-first.ensures.core c.new-first.ensures.none c.new-first.ensures.last (rw c.new-first.ensures.log c.requires.empty)
    r.0 on)
    c.recover.ensures.recovered
