use Rattle.std.proofs.Common.{◌∙◌, refl, arith}
use Rattle.node_host.proofs.Beginning.{begun_ends, begun_for_some, begun_moments, begun_stands}
use Rattle.node_host.proofs.fresh.Fresh.begin.Goals as goal

pub returns-in_err-journal-clause-any_moment : goal.returns-in_err-journal-clause-any_moment
returns-in_err-journal-clause-any_moment g c =
    begun_moments c.args.self c.self.inside.core c.self.inside.fingerprint c.self.inside.site c.self.inside.count (cc) c.self.invariant c.args.journal.limit c.args.journal.gate
    c.one_list.ensures c.heads_are_read_again.ensures (omega arith) (omega arith) c.requires.first (g.D.Disk.state c.args.disk.now) c.requires.ready
    (g.D.Disk.past c.args.disk.now) (g.D.Disk.past c.make_head.new.disk) (g.D.Disk.state c.make_head.new.disk) c.make_head.ensures.told c.make_head.ensures.any_moment

pub returns-clause-ends : goal.returns-clause-ends
returns-clause-ends g c =
    begun_ends c.args.self c.self.inside.core c.self.inside.fingerprint c.self.inside.site c.self.inside.count (cc) c.self.invariant c.args.journal.limit c.args.journal.gate
    c.one_list.ensures c.heads_are_read_again.ensures (omega arith) (omega arith) c.requires.first (g.D.Disk.state c.args.disk.now) c.requires.ready
    c.in_ok-journal.ensures.roomy

pub returns-clause-stands : goal.returns-clause-stands
returns-clause-stands g c =
    begun_stands c.args.self c.self.inside.core c.self.inside.fingerprint c.self.inside.site c.self.inside.count (cc) c.self.invariant c.args.journal.limit c.args.journal.gate
    c.one_list.ensures c.heads_are_read_again.ensures (omega arith) (omega arith) c.requires.first (g.D.Disk.state c.args.disk.now) c.requires.ready
    _ (g.D.Disk.state c.make_head.new.disk) c.in_ok-journal.ensures.made refl refl (c.new-2.ensures ∙ c.new.ensures.items)

pub returns-clause-node : goal.returns-clause-node
returns-clause-node g c =
    begun_for_some c.args.self c.self.inside.core c.self.inside.fingerprint c.self.inside.site c.self.inside.count (cc) c.self.invariant c.args.journal.limit c.args.journal.gate
    c.one_list.ensures c.heads_are_read_again.ensures (omega arith) (omega arith) c.requires.first (g.D.Disk.state c.args.disk.now) c.requires.ready
    _ refl refl (c.new-2.ensures ∙ c.new.ensures.items)

pub returns-clause-any_moment : goal.returns-clause-any_moment
returns-clause-any_moment g c =
    begun_moments c.args.self c.self.inside.core c.self.inside.fingerprint c.self.inside.site c.self.inside.count (cc) c.self.invariant c.args.journal.limit c.args.journal.gate
    c.one_list.ensures c.heads_are_read_again.ensures (omega arith) (omega arith) c.requires.first (g.D.Disk.state c.args.disk.now) c.requires.ready
    (g.D.Disk.past c.args.disk.now) (g.D.Disk.past c.make_head.new.disk) (g.D.Disk.state c.make_head.new.disk) c.make_head.ensures.told c.make_head.ensures.any_moment
