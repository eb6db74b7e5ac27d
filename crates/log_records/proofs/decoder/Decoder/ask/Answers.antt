use Rattle.log_records.proofs.Asked.{keeps_ask_limits}
use Rattle.log_records.proofs.decoder.Decoder.ask.Goals as goal

pub of-requires : goal.of-requires
of-requires c =
    let told = rw c.in_ok-reads.ensures.1 at c.in_ok-puts.ensures.0 in
    keeps_ask_limits c.args.self.now.whole c.args.self.now.rest.now c.in_ok-reads.reads c.reads.new.self.rest.now c.in_ok-puts.puts c.puts.new.self.rest.now c.in_ok-reads.ensures.0 told
