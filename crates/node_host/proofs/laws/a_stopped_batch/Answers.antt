use Rattle.node_host.proofs.Stopped.{batch_stopped}
use Rattle.node_host.proofs.laws.a_stopped_batch.Goals as goal

pub returns : goal.returns
returns c = batch_stopped c.stopped_disk.ensures c.batches_are_read_again.ensures c.no_batch_is_longer.ensures
