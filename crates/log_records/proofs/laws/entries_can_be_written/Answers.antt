use Rattle.log_records.proofs.EntryAgain.{entry_writable}
use Rattle.log_records.proofs.laws.entries_can_be_written.Goals as goal

pub returns : goal.returns
returns c = entry_writable
