use Rattle.std.proofs.Common.{◌∙◌, Some, ap, arith}
use Rattle.outside_io.specs.MemoryNet.{MemoryNet, MemoryPeers, memory_seen}
use Rattle.outside_io.specs.Laws.Talks.{talks_still}
use Rattle.outside_io.proofs.PeerTurns.{still_some}
use Rattle.outside_io.proofs.memory_net.MemNetNet.write.Goals as goal

pub returns-then-is_failing-clause-failed : goal.returns-then-is_failing-clause-failed
returns-then-is_failing-clause-failed c =
    talks_still (memory_seen c.args.self.now) _ (ap (λ (n : MemoryNet). Some n.told) c.self.view_is) (ap (λ (n : MemoryNet). n.listens) c.self.view_is) (ap (λ (n : MemoryNet). n.stands) c.self.view_is)
    (c.is_failing.ensures.faults ∙ ap (λ (n : MemoryNet). n.call_faults) c.self.view_is)
    (omega (arith, c.count_fault.ensures.next, c.self.invariant.3, ap (λ (n : MemoryNet). n.line_faults) c.self.view_is))

pub returns-then-not-is_empty-clause-failed : goal.returns-then-not-is_empty-clause-failed
returns-then-not-is_empty-clause-failed c =
    talks_still (memory_seen c.args.self.now) _ (ap (λ (n : MemoryNet). Some n.told) c.self.view_is) (ap (λ (n : MemoryNet). n.listens) c.self.view_is) (ap (λ (n : MemoryNet). n.stands) c.self.view_is)
    (c.is_failing.ensures.faults ∙ ap (λ (n : MemoryNet). n.call_faults) c.self.view_is)
    (omega (arith, c.count_fault-then-not-is_empty.ensures.next, c.self.invariant.3, ap (λ (n : MemoryNet). n.line_faults) c.self.view_is))

pub invariant_of-self-2 : goal.invariant_of-self-2
invariant_of-self-2 c = (
  c.self.invariant.0,
  λ stands. still_some _ c.self.inside.peers.talks c.write.new.self.talks (ap (λ (p : MemoryPeers). p.talks) c.write.ensures) (c.self.invariant.1 stands),
  omega (arith, c.is_failing.ensures.faults, c.self.invariant.2),
  c.self.invariant.3,
)
