use Rattle.std.proofs.Common.{◌≤◌, arith, sym, subst}
use Rattle.helios_model.specs.Limits.{most_sites}
use Rattle.helios_model.specs.Node.{empty_node}
use Rattle.helios_model.specs.Plans.{count_of}
use Rattle.commit_rules.specs.Core.{IsCoreOf, core_of}
use Rattle.commit_rules.proofs.Standing.{core_first}
use Rattle.commit_rules.proofs.rules.Core.new.Goals as goal

pub invariant_of-core : goal.invariant_of-core
invariant_of-core c =
    let s = c.in_ok-node.node in
    let first = c.in_ok-node.ensures.first in
    let few : count_of c.args.plan ≤ most_sites = omega arith in (
      record {
        node = empty_node c.args.plan c.args.site;
        is = subst (λ p. IsCoreOf (core_of s 0) p (empty_node c.args.plan c.args.site)) (sym first.0)
            (core_first s c.args.plan c.args.site first.0 first.1 first.2 c.in_ok-node.ensures.node c.in_ok-node.ensures.stands
            (c.an_empty_node_is_within_limits.ensures c.args.plan c.args.site few c.requires));
      },
      first.3,
      first.4,
    )

pub returns : goal.returns
returns c =
    let s = c.in_ok-node.node in
    let first = c.in_ok-node.ensures.first in
    let few : count_of c.args.plan ≤ most_sites = omega arith in
    core_first s c.args.plan c.args.site first.0 first.1 first.2 c.in_ok-node.ensures.node c.in_ok-node.ensures.stands
    (c.an_empty_node_is_within_limits.ensures c.args.plan c.args.site few c.requires)
