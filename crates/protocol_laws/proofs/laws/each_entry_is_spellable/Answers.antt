use Rattle.protocol_laws.proofs.JournalLaws.{each_entry_is_spellable}
use Rattle.protocol_laws.proofs.laws.each_entry_is_spellable.Goals as goal

pub returns : goal.returns
returns c = each_entry_is_spellable
