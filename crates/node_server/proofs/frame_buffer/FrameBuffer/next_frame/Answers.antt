use Rattle.node_server.proofs.Arrivals.{end_answered, failed_answered}
use Rattle.node_server.proofs.frame_buffer.FrameBuffer.next_frame.Goals as goal

pub returns-in-End : goal.returns-in-End
returns-in-End g c =
    end_answered c.args.self.now c.loop-frame.self c.fill.new.self c.unread.result.now c.unread-in-End.result.now (g.N.Net.seen c.args.net.now) (g.N.Net.seen c.loop-frame.net) (g.N.Net.seen c.fill.new.net) c.end_of.result
    c.loop-frame.invariant c.unread.ensures (rw c.in-Err-Cut.field-0-is at c.in-Err-Cut.ensures) c.in-End.ensures c.unread-in-End.ensures c.end_of.ensures

pub returns-in-Failed : goal.returns-in-Failed
returns-in-Failed g c =
    failed_answered c.args.self.now c.loop-frame.self c.fill.new.self c.unread.result.now (g.N.Net.seen c.args.net.now) (g.N.Net.seen c.loop-frame.net) (g.N.Net.seen c.fill.new.net)
    c.loop-frame.invariant c.unread.ensures (rw c.in-Err-Cut.field-0-is at c.in-Err-Cut.ensures) c.in-Failed.ensures
