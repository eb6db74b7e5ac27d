use Rattle.protocol_laws.proofs.JournalLaws.{each_entry_may_be_asked}
use Rattle.protocol_laws.proofs.laws.each_entry_may_be_asked.Goals as goal

pub returns : goal.returns
returns c = each_entry_may_be_asked
