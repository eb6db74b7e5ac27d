use Rattle.log_records.proofs.EntryTaken.{entry_read}
use Rattle.log_records.proofs.MessageTaken.{message_begins}
use Rattle.log_records.proofs.laws.what_is_read_is_an_entry.Goals as goal

pub returns : goal.returns
returns c = entry_read message_begins
