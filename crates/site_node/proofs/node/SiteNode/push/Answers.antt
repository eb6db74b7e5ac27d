use Rattle.site_node.proofs.Sent.{pushed, sound_takes}
use Rattle.site_node.proofs.node.SiteNode.push.Goals as goal

pub with_records-requires-clause-after : goal.with_records-requires-clause-after
with_records-requires-clause-after c =
    sound_takes c.arriving_records_may_be_taken.ensures c.args.reading c.args.self c.advance.new.self c.advance.ensures.node c.advance.ensures.place c.args.m.records c.requires.sound

pub returns-clause-node : goal.returns-clause-node
returns-clause-node c =
    pushed c.arriving_records_may_be_taken.ensures c.args.reading c.args.m c.args.self c.advance.new.self c.in_ok-arrived.arrived c.take_times.new.self c.in_ok-settled.settled
    c.advance.ensures.node c.advance.ensures.place c.in_ok-arrived.ensures.node c.in_ok-arrived.ensures.place c.take_times.ensures.node c.take_times.ensures.place c.in_ok-settled.ensures.node
