use Rattle.std.proofs.Common.{◌∙◌, ◌+◌, ◌∷◌, ◌++◌, [], ap, sym, subst}
use Rattle.std.specs.Prelude.{if◌then◌else◌}
use Rattle.helios_model.specs.declared.records.Record.TheVariants.{Commit}
use Rattle.helios_model.specs.Settle.{commit_one}
use Rattle.time_table.specs.Table.{raised}
use Rattle.site_ledger.specs.Ledger.{holds_id}
use Rattle.site_node.specs.Node.{Becomes, clock_in}
use Rattle.site_node.proofs.Steps.{committed, parts_of}
use Rattle.site_node.proofs.node.SiteNode.commit.Goals as goal

pub returns-clause-node : goal.returns-clause-node
returns-clause-node c =
    let p = c.self.inside in
    let id = c.args.id.now in
    subst (λ s. Becomes s (parts_of p.plan c.raise.new.self c.in_ok-ledger.ledger) (λ n. commit_one s.plan n id)) c.self.view_is
    (committed p.plan p.table c.raise.new.self p.site p.ledger c.in_ok-ledger.ledger c.self.invariant.1 c.self.invariant.3 c.fewer_are_needed.ensures.kept c.in_ok-ledger.ensures.site
    c.of.result
    (c.raise.ensures.value ∙ ap (raised p.table p.site p.site) (c.of-2.ensures ∙ sym c.of.ensures))
    (c.of.ensures ∙ ap (λ time. time + 1) (c.clock-time.ensures ∙ ap clock_in (sym c.self.view_is)))
    id
    (c.in_ok-ledger.ensures.added
    ∙ ap (λ held. if held then p.ledger.added ++ Commit id c.of.result ∷ [] else p.ledger.added) (ap (λ s. holds_id s.ledger.pools id) c.self.view_is ∙ c.requires.held))
    c.in_ok-ledger.ensures.stands)
