use Rattle.std.proofs.Common.{◌<◌, length, subst, sym}
use Rattle.outside_io.specs.MemoryNet.{MemoryPeers}
use Rattle.outside_io.proofs.Lines.{laid_part}
use Rattle.outside_io.proofs.peers.Peers.connection.Goals as goal

pub part-requires : goal.part-requires
part-requires c =
    rw c.deref.ensures.value (laid_part c.self.inside.written.items c.self.inside.lines.items c.args.number c.index-line.result.now c.starts.result c.ends.result c.self.invariant.2
    (subst (λ (p : MemoryPeers). c.args.number < length p.talks) (sym c.self.view_is) c.requires) c.index-line.ensures c.starts.ensures c.ends.ensures)
