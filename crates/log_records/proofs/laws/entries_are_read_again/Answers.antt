use Rattle.log_records.proofs.EntryAgain.{entry_again}
use Rattle.log_records.proofs.MessageAgain.{message_again}
use Rattle.log_records.proofs.laws.entries_are_read_again.Goals as goal

pub returns : goal.returns
returns c = entry_again message_again
