use Rattle.std.proofs.Common.{◌∙◌, ◌≤◌, ap, sym, subst, All}
use Rattle.helios_model.specs.Grid.{at}
use Rattle.helios_model.specs.Exchange.{take_all}
use Rattle.helios_model.specs.Messages.{with_records}
use Rattle.node_limits.specs.Limits.{MayTake}
use Rattle.time_table.specs.Table.{raised, time_at}
use Rattle.site_ledger.specs.Ledger.{Base, intake_in, log_in}
use Rattle.site_node.specs.Node.{BecomesAt, IsNodeOf, clock_in, row_in}
use Rattle.site_node.proofs.Steps.{parts_of, taken_parts}
use Rattle.site_node.proofs.node.SiteNode.with_records.Goals as goal

pub returns-clause-node : goal.returns-clause-node
returns-clause-node c =
    let p = c.self.inside in
    let clock = c.clock-clock.ensures ∙ ap clock_in (sym c.self.view_is) in
    subst (λ s. (b : Base) → IsNodeOf b s → All (MayTake s.ledger.site (row_in s) (log_in b s.ledger)) c.args.records → BecomesAt b s (parts_of p.plan c.raise.new.self c.in_ok-ledger.field-0.ledger) (λ n. with_records s.plan n c.args.records)) c.self.view_is
    (λ b h may.
    let took = c.in_ok-ledger.ensures.taken b h.ledger (subst (λ count. All (MayTake p.ledger.site (at count p.table.times p.ledger.site) (log_in b p.ledger)) c.args.records) (sym c.self.invariant.1) may) in
    taken_parts p.plan p.table c.raise.new.self p.site p.ledger c.in_ok-ledger.field-0.ledger c.self.invariant.1 c.self.invariant.3 c.fewer_are_needed.ensures.kept
    (record { count = c.in_ok-ledger.ensures.goes.count; site = c.in_ok-ledger.ensures.goes.site })
    c.in_ok-ledger.field-0.clock (c.raise.ensures.value ∙ ap (raised p.table p.site p.site) c.of.ensures)
    (subst (λ time. time ≤ c.in_ok-ledger.field-0.clock) clock c.in_ok-ledger.ensures.goes.later)
    c.args.records b took.stands
    (took.intake ∙ ap (λ time. take_all p.ledger.site (time_at p.table p.ledger.site) (intake_in b p.ledger time) c.args.records) clock)
    h)
