use Rattle.node_host.proofs.Holdings.{journal_push}
use Rattle.node_host.proofs.laws.batches_are_pushed.Goals as goal

pub returns : goal.returns
returns c = journal_push
