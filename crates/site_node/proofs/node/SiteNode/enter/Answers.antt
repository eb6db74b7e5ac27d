use Rattle.std.proofs.Common.{◌∙◌, ◌≤◌, ap, sym, subst}
use Rattle.helios_model.specs.declared.records.Record.TheVariants.{Prepare}
use Rattle.helios_model.specs.Request.{entered}
use Rattle.node_limits.specs.Limits.{IsAfter}
use Rattle.time_table.specs.Table.{raised}
use Rattle.site_ledger.specs.Ledger.{Base, log_in}
use Rattle.site_node.specs.Node.{BecomesAt, IsNodeOf, clock_in}
use Rattle.site_node.proofs.Steps.{entered_parts, parts_of}
use Rattle.site_node.proofs.node.SiteNode.enter.Goals as goal

pub returns-clause-node : goal.returns-clause-node
returns-clause-node c =
    let p = c.self.inside in
    subst (λ s. (b : Base) → IsNodeOf b s → IsAfter (log_in b s.ledger) (Prepare c.args.p) → BecomesAt b s (parts_of p.plan c.raise.new.self c.in_ok-ledger.ledger) (λ n. entered s.plan n c.args.p)) c.self.view_is
    (λ b h after.
    entered_parts p.plan p.table c.raise.new.self p.site p.ledger c.in_ok-ledger.ledger c.self.invariant.1 c.self.invariant.3 c.fewer_are_needed.ensures.kept c.in_ok-ledger.ensures.site
    c.args.p (c.raise.ensures.value ∙ ap (λ id. raised p.table p.site p.site id.time) c.id-time.ensures)
    (subst (λ s. clock_in s ≤ c.args.p.id.time) (sym c.self.view_is) c.requires.later)
    c.in_ok-ledger.ensures.added b (c.in_ok-ledger.ensures.stands b h.ledger after) h)
