use Rattle.protocol_laws.proofs.Spelling.{each_record_is_spellable}
use Rattle.protocol_laws.proofs.laws.each_record_is_spellable.Goals as goal

pub returns : goal.returns
returns c = each_record_is_spellable
