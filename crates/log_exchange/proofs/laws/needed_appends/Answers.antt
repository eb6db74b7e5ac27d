use Rattle.log_exchange.proofs.Needed.{needed_appends}
use Rattle.log_exchange.proofs.laws.needed_appends.Goals as goal

pub returns : goal.returns
returns c = needed_appends
