use Rattle.std.proofs.Common.{◌≡◌, ◌∙◌, subst}
use Rattle.helios_model.specs.declared.messages.Message.{Message}
use Rattle.helios_model.specs.Messages.{message_to}
use Rattle.site_ledger.specs.Ledger.{Base}
use Rattle.site_node.specs.Node.{IsNodeOf, node_in}
use Rattle.site_node.proofs.Sent.{message_parts}
use Rattle.site_node.proofs.node.SiteNode.message_to.Goals as goal

pub returns : goal.returns
returns c =
    let p = c.self.inside in
    let m : Message = record { from = p.site; to = c.args.to; count = c.count.result; table = c.in_ok-copy.field-0; cover = c.in_ok-records.cover; records = c.in_ok-records.records } in
    subst (λ s. (b : Base) → IsNodeOf b s → m ≡ message_to s.plan (node_in b s) c.args.to) c.self.view_is
    (message_parts p.plan p.table p.ledger p.site c.args.to c.count.result c.in_ok-copy.field-0 c.in_ok-records.cover c.in_ok-records.records
    c.self.invariant.1 c.self.invariant.2 c.self.invariant.3 c.count.ensures.value (c.in_ok-copy.ensures ∙ c.grid.ensures)
    (record { told = c.in_ok-records.ensures.records; covers = c.in_ok-records.ensures.cover }))
