use Rattle.log_records.proofs.HeadTaken.{heads_alone}
use Rattle.log_records.proofs.laws.no_head_begins_another.Goals as goal

pub returns : goal.returns
returns c = heads_alone
