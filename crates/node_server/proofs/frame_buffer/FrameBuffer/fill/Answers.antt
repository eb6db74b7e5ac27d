use Rattle.std.proofs.Common.{arith, ◌+◌, ◌-◌, refl, sym, ◌∙◌}
use Rattle.node_server.proofs.Arrivals.{filled}
use Rattle.node_server.proofs.frame_buffer.FrameBuffer.fill.Goals as goal

pub returns-in-Ok-read_behind : goal.returns-in-Ok-read_behind
returns-in-Ok-read_behind g c =
    filled c.in-Ok.from (c.in-Ok.from + (c.self.inside.to - c.self.inside.from)) c.in-Ok-read_behind.count
    c.args.self.now c.make_room.new.bytes.items c.read_behind.new.bytes.items c.args.self.now (g.N.Net.seen c.args.net.now) (g.N.Net.seen c.read_behind.new.net)
    refl (sym c.self.view_is ∙ sym c.in-Ok.ensures.kept.same) (omega arith) (omega (arith, c.in-Ok-read_behind.ensures.bound, c.read_behind.new.bytes.ok.0)) c.read_behind.ensures.front
    c.in-Ok-read_behind.count-test.1 c.in-Ok-read_behind.ensures.got c.in-Ok-read_behind.ensures.cause.steady
