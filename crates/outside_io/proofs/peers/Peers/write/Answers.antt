use Rattle.std.proofs.Common.{◌≡◌, ◌-◌, ◌∙◌, ap, arith, length, sym}
use Rattle.std.proofs.lemmas.List.{length-map}
use Rattle.outside_io.specs.MemoryNet.{MemoryPeers, talk_of}
use Rattle.outside_io.proofs.PeerTurns.{peers_laid, peers_wrote}
use Rattle.outside_io.proofs.peers.Peers.write.Goals as goal

pub invariant_of-self : goal.invariant_of-self
invariant_of-self c = (
  omega (arith, c.append.ensures.len, c.append.ensures.capacity, c.self.invariant.0, c.requires.room, ap (λ (p : MemoryPeers). p.room) c.self.view_is),
  c.self.invariant.1,
  peers_laid c.self.inside.written.items c.append.new.bytes.items c.args.piece.now c.self.inside.lines.items (c.len-last.result - 1) c.len-end.result c.index_mut-line.result.now c.set_end.new.self c.self.invariant.2
      (omega (arith, c.len-last.ensures, c.self.inside.lines.ok.0, c.requires.some, ap (λ (p : MemoryPeers). length p.talks) c.self.view_is, length-map c.self.inside.lines.items (talk_of c.self.inside.written.items)))
      c.index_mut-line.ensures.value c.append.ensures.items (omega (arith, c.len-end.ensures, c.append.new.bytes.ok.0))
      (omega (arith, c.len-end.ensures, c.append.ensures.len, c.self.inside.written.ok.0)) c.set_end.ensures,
)

pub returns : goal.returns
returns c =
    peers_wrote c.args.self.now _ c.self.inside.written.items c.append.new.bytes.items c.args.piece.now c.self.inside.lines.items c.self.inside.room (c.len-last.result - 1) c.len-end.result c.index_mut-line.result.now c.set_end.new.self
    c.self.view_is c.self.invariant.2
    (omega (arith, c.len-last.ensures, c.self.inside.lines.ok.0, c.requires.some, ap (λ (p : MemoryPeers). length p.talks) c.self.view_is, length-map c.self.inside.lines.items (talk_of c.self.inside.written.items)))
    c.index_mut-line.ensures.value c.append.ensures.items (omega (arith, c.len-end.ensures, c.append.new.bytes.ok.0)) c.set_end.ensures
