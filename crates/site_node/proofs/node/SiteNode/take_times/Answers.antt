use Rattle.std.proofs.Common.{subst}
use Rattle.helios_model.specs.Exchange.{merged}
use Rattle.helios_model.specs.Plans.{count_of}
use Rattle.site_node.specs.Node.{Becomes}
use Rattle.site_node.proofs.Steps.{merged_parts, parts_of}
use Rattle.site_node.proofs.node.SiteNode.take_times.Goals as goal

pub returns-clause-node : goal.returns-clause-node
returns-clause-node c =
    let p = c.self.inside in
    subst (λ s. Becomes s (parts_of p.plan c.merge.new.self p.ledger) (λ n. record { site = n.site; log = n.log; table = merged (count_of s.plan) n.site n.table c.args.table.now c.args.cover.now })) c.self.view_is
    (merged_parts c.fewer_are_needed.ensures.kept p.plan p.table c.merge.new.self p.site p.ledger c.self.invariant.1 c.self.invariant.3 c.count-count.ensures.square
    c.args.table.now c.args.cover.now c.merge.ensures.value)
