use Rattle.std.proofs.Common.{◌∙◌, ap, sym, Some, None}
use Rattle.helios_model.specs.Settle.{is_reached}
use Rattle.site_node.specs.Node.{node_in}
use Rattle.site_node.proofs.NextCommit.{IsFirstOwn, commits_first, none_commits, none_is_open}
use Rattle.site_node.proofs.node.SiteNode.next_commit.Goals as goal

pub returns-then-is_reached : goal.returns-then-is_reached
returns-then-is_reached c =
    let first : IsFirstOwn c.self.inside.ledger (Some c.in-Some.p.now) =
    record { held = c.in-Some.ensures.first; stands = c.in-Some.ensures.stands; rise = c.in-Some.ensures.rise } in
    commits_first c.args.self.now c.self.inside.ledger (ap (λ s. s.ledger) c.self.view_is) c.an_end_leaves_the_other_own.ensures c.a_clock_leaves_other_times.ensures
    c.in-Some.p.now c.id-id.result first c.id-id.ensures (λ b. ap (is_reached c.args.self.now.plan (node_in b c.args.self.now)) (sym c.half_micros.ensures) ∙ sym c.is_reached.ensures ∙ c.if-is_reached.true)

pub returns-else-is_reached : goal.returns-else-is_reached
returns-else-is_reached c =
    let first : IsFirstOwn c.self.inside.ledger (Some c.in-Some.p.now) =
    record { held = c.in-Some.ensures.first; stands = c.in-Some.ensures.stands; rise = c.in-Some.ensures.rise } in
    none_commits c.args.self.now c.self.inside.ledger (ap (λ s. s.ledger) c.self.view_is) c.in-Some.p.now c.id-id.result first c.id-id.ensures
    (λ b. ap (is_reached c.args.self.now.plan (node_in b c.args.self.now)) (sym c.half_micros.ensures) ∙ sym c.is_reached.ensures ∙ c.if-is_reached.false)

pub returns-in-None : goal.returns-in-None
returns-in-None c =
    let first : IsFirstOwn c.self.inside.ledger None =
    record { held = c.in-None.ensures.first; stands = c.in-None.ensures.stands; rise = c.in-None.ensures.rise } in
    none_is_open c.args.self.now c.self.inside.ledger (ap (λ s. s.ledger) c.self.view_is) first
