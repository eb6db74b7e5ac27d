use Rattle.std.proofs.Common.{◌≡◌, rules}
use Rattle.node_journal.specs.Frames.{frame_of}
use Rattle.node_journal.proofs.Bytes.{frame_whole}
use Rattle.node_journal.proofs.framed.Framed.new.Goals as goal

pub invariant_of-result : goal.invariant_of-result
invariant_of-result c =
    let made : c.push.new.self.items ≡ frame_of c.args.payload = search rules in
    (frame_whole c.push.new.self.items c.args.payload c.requires made).0

pub returns : goal.returns
returns c =
    let made : c.push.new.self.items ≡ frame_of c.args.payload = search rules in
    (frame_whole c.push.new.self.items c.args.payload c.requires made).1
