use Rattle.std.proofs.Common.{arith}
use Rattle.log_records.proofs.MessageFields.{record_here}
use Rattle.log_records.proofs.decoder.Decoder.next.Goals as goal

pub may_follow-requires : goal.may_follow-requires
may_follow-requires c =
    let here = record_here c.args.count c.args.self.now.whole c.args.self.now.rest.now c.in_ok-record.record c.record.new.self.rest.now c.in_ok-record.ensures.0 in
    let long = c.requires.covered in
    omega (arith, here, long)
