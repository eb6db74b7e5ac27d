use Rattle.protocol_laws.proofs.Fits.{keys_conflict_back}
use Rattle.protocol_laws.proofs.laws.conflict_is_symmetric.Goals as goal

pub returns : goal.returns
returns c = keys_conflict_back
