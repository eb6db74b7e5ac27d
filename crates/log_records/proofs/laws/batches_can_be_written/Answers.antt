use Rattle.log_records.proofs.EntryAgain.{batch_writable}
use Rattle.log_records.proofs.laws.batches_can_be_written.Goals as goal

pub returns : goal.returns
returns c = batch_writable
