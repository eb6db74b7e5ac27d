use Rattle.node_journal.proofs.Readings.{one_reading}
use Rattle.node_journal.proofs.laws.one_reading.Goals as goal

pub returns : goal.returns
returns c = one_reading
