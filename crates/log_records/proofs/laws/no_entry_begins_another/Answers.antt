use Rattle.log_records.proofs.EntryAgain.{entries_alone}
use Rattle.log_records.proofs.MessageAgain.{message_again}
use Rattle.log_records.proofs.laws.no_entry_begins_another.Goals as goal

pub returns : goal.returns
returns c = entries_alone message_again
