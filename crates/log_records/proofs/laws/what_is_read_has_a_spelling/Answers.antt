use Rattle.log_records.proofs.Taken.{record_taken}
use Rattle.log_records.proofs.laws.what_is_read_has_a_spelling.Goals as goal

pub returns : goal.returns
returns c = record_taken
