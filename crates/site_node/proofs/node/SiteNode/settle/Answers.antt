use Rattle.std.proofs.Common.{◌≡◌, ◌-◌, arith}
use Rattle.site_node.proofs.NextCommit.{settled_none}
use Rattle.site_node.proofs.node.SiteNode.settle.Goals as goal

pub returns-clause-node : goal.returns-clause-node
returns-clause-node c b h =
    let none : c.own_open-end.result - c.loop.counter ≡ 0 = omega arith in
    settled_none b c.args.self c.loop.node (c.own_open-end.result - c.loop.counter) c.loop.invariant.place.plan none (c.loop.invariant.node b h)
