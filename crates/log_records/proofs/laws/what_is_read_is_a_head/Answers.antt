use Rattle.log_records.proofs.HeadTaken.{head_read}
use Rattle.log_records.proofs.laws.what_is_read_is_a_head.Goals as goal

pub returns : goal.returns
returns c = head_read
