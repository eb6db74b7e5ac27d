use Rattle.log_records.proofs.EntryAgain.{batch_again, entries_again}
use Rattle.log_records.proofs.MessageAgain.{message_again}
use Rattle.log_records.proofs.laws.batches_are_read_again.Goals as goal

pub returns : goal.returns
returns c = λ count entries h. (batch_again message_again count entries h, λ whole rest. entries_again message_again count whole entries rest h)
