use Rattle.std.proofs.Common.{◌-◌, length}
use Rattle.node_server.specs.Rooms.{Reads}
use Rattle.node_server.proofs.frame_buffer.FrameBuffer.next_frame.Given as goal

abbrev pub invariant-loop-frame : goal.invariant-loop-frame
invariant-loop-frame g l = Reads l.initial.self l.self (g.N.Net.seen l.initial.net) (g.N.Net.seen l.net)

abbrev pub decreases-loop-frame : goal.decreases-loop-frame
decreases-loop-frame g l = 1213481 - length l.self
