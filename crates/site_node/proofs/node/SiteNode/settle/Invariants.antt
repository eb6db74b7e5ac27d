use Rattle.std.proofs.Common.{◌-◌}
use Rattle.site_ledger.specs.Ledger.{Base}
use Rattle.site_node.specs.Node.{IsBounded, IsNodeOf, IsSamePlace}
use Rattle.site_node.proofs.NextCommit.{Settles}
use Rattle.site_node.proofs.node.SiteNode.settle.Given as goal

abbrev pub invariant-loop : goal.invariant-loop
invariant-loop l = record {
  bounded : IsBounded l.node;
  place : IsSamePlace l.initial.node l.node;
  node : (b : Base) → IsNodeOf b l.initial.node → Settles b l.initial.node l.node (l.end - l.counter);
}
