use Rattle.log_exchange.proofs.Needed.{needed_stays, needed_tells_cover, needed_tells_records}
use Rattle.log_exchange.proofs.laws.needed_records_tell_all.Goals as goal

pub returns-clause-stays : goal.returns-clause-stays
returns-clause-stays c = needed_stays

pub returns-clause-records : goal.returns-clause-records
returns-clause-records c = needed_tells_records

pub returns-clause-cover : goal.returns-clause-cover
returns-clause-cover c = needed_tells_cover
