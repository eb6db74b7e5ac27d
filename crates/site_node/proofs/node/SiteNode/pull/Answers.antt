use Rattle.std.proofs.Common.{◌∙◌, ap}
use Rattle.helios_model.specs.Messages.{message_to}
use Rattle.site_node.specs.Node.{node_in}
use Rattle.site_node.proofs.node.SiteNode.pull.Goals as goal

pub returns-clause-message : goal.returns-clause-message
returns-clause-message c b h =
    c.in_ok-message.ensures b (c.advance.ensures.node b h).stands
    ∙ ap (λ p. message_to p (node_in b c.advance.new.self) c.args.to) c.advance.ensures.place.plan
    ∙ ap (λ n. message_to c.args.self.plan n c.args.to) (c.advance.ensures.node b h).node
