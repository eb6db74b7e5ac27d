use Rattle.std.proofs.Common.{◌≡◌, ◌-◌, ◌∙◌, ◌++◌, List, ℕ, ap, arith, drop, length, min, take}
use Rattle.std.proofs.lemmas.List.{length-map}
use Rattle.outside_io.specs.MemoryNet.{MemoryPeers, talk_of}
use Rattle.outside_io.proofs.PeerTurns.{peers_kept, peers_left, peers_read}
use Rattle.outside_io.proofs.peers.Peers.read.Goals as goal

pub invariant_of-self : goal.invariant_of-self
invariant_of-self c = (
  c.self.invariant.0,
  c.self.invariant.1,
  peers_kept c.self.inside.written.items c.self.inside.lines.items (c.len-last.result - 1) c.index_mut-line.result.now c.read.new.self _ _ _ c.self.invariant.2 c.index_mut-line.ensures.value c.read.ensures.after,
)

pub returns-clause-amount : goal.returns-clause-amount
returns-clause-amount c =
    c.read.ensures.amount ∙ ap (λ (xs : List ℕ). min c.args.most (min (length c.args.into.now) (length xs)))
    (peers_left c.args.self.now _ c.self.inside.written.items c.self.inside.lines.items c.self.inside.room (c.len-last.result - 1) c.index_mut-line.result.now c.self.view_is
    (omega (arith, c.len-last.ensures, c.self.inside.lines.ok.0, c.requires, ap (λ (p : MemoryPeers). length p.talks) c.self.view_is, length-map c.self.inside.lines.items (talk_of c.self.inside.written.items)))
    c.index_mut-line.ensures.value)

pub returns-clause-given : goal.returns-clause-given
returns-clause-given c =
    c.read.ensures.given ∙ ap (λ (xs : List ℕ). take c.read.result xs ++ drop c.read.result c.args.into.now)
    (peers_left c.args.self.now _ c.self.inside.written.items c.self.inside.lines.items c.self.inside.room (c.len-last.result - 1) c.index_mut-line.result.now c.self.view_is
    (omega (arith, c.len-last.ensures, c.self.inside.lines.ok.0, c.requires, ap (λ (p : MemoryPeers). length p.talks) c.self.view_is, length-map c.self.inside.lines.items (talk_of c.self.inside.written.items)))
    c.index_mut-line.ensures.value)

pub returns-clause-after : goal.returns-clause-after
returns-clause-after c =
    peers_read c.args.self.now _ c.self.inside.written.items c.self.inside.lines.items c.self.inside.room (c.len-last.result - 1) c.read.result c.index_mut-line.result.now c.read.new.self c.read.new.into c.self.view_is
    (omega (arith, c.len-last.ensures, c.self.inside.lines.ok.0, c.requires, ap (λ (p : MemoryPeers). length p.talks) c.self.view_is, length-map c.self.inside.lines.items (talk_of c.self.inside.written.items)))
    c.index_mut-line.ensures.value c.read.ensures.after
