use Rattle.log_exchange.proofs.Needed.{fewer_are_needed, kept_serves_later}
use Rattle.log_exchange.proofs.laws.fewer_are_needed.Goals as goal

pub returns-clause-log : goal.returns-clause-log
returns-clause-log c = fewer_are_needed

pub returns-clause-kept : goal.returns-clause-kept
returns-clause-kept c = kept_serves_later
