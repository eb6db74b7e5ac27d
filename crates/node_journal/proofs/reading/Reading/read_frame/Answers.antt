use Rattle.std.proofs.Common.{◌≡◌, ◌+◌, ◌-◌, arith}
use Rattle.node_journal.proofs.Founds.{frame_found}
use Rattle.node_journal.proofs.reading.Reading.read_frame.Goals as goal

pub returns-in-Some-2-clause-found : goal.returns-in-Some-2-clause-found
returns-in-Some-2-clause-found g c =
    let next : c.in-Some.end - 1 ≡ c.self.inside.gate + 5 + c.args.size = omega (arith, c.in-Some.ensures) in
    rw (← c.self.view_is)
    (frame_found (g.D.Disk.state c.args.disk.now) c.self.inside.gate c.self.inside.limit c.args.size (c.in-Some.end - 1) c.in-Some-2.payload
    (rw (← c.self.view_is) at c.requires.length) c.if-size-gt-MOST_PAYLOAD.false next
    (rw c.in-Some-2.is at c.in_ok-payload.ensures.whole) (rw c.in-Some-2.is at c.in_ok-payload.ensures.size))
