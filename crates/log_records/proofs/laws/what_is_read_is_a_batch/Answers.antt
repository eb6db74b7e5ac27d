use Rattle.log_records.proofs.EntryTaken.{batch_read}
use Rattle.log_records.proofs.MessageTaken.{message_begins}
use Rattle.log_records.proofs.laws.what_is_read_is_a_batch.Goals as goal

pub returns : goal.returns
returns c = batch_read message_begins
