use Rattle.protocol_laws.proofs.Asks.{asked_is_transaction}
use Rattle.protocol_laws.proofs.laws.asked_is_transaction.Goals as goal

pub returns : goal.returns
returns c = asked_is_transaction
