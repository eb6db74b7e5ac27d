use Rattle.log_records.proofs.Differ.{keeps_limits}
use Rattle.log_records.proofs.decoder.Decoder.prepare_of.Goals as goal

pub of-requires : goal.of-requires
of-requires c =
    let told = rw c.in_ok-reads.ensures.1 at c.in_ok-writes.ensures.0 in
    keeps_limits c.args.self.now.whole c.args.self.now.rest.now c.in_ok-reads.reads c.reads.new.self.rest.now c.in_ok-writes.writes c.writes.new.self.rest.now c.in_ok-reads.ensures.0 told
