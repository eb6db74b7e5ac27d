use Rattle.protocol_laws.proofs.WorldLaws.{history_is_serial}
use Rattle.protocol_laws.proofs.laws.history_is_serial.Goals as goal

pub returns : goal.returns
returns c = history_is_serial
