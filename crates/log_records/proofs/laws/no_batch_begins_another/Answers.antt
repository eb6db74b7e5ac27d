use Rattle.log_records.proofs.EntryAgain.{batches_alone}
use Rattle.log_records.proofs.MessageAgain.{message_again}
use Rattle.log_records.proofs.laws.no_batch_begins_another.Goals as goal

pub returns : goal.returns
returns c = batches_alone message_again
