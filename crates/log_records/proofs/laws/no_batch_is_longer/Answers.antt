use Rattle.log_records.proofs.MostLengths.{batch_most}
use Rattle.log_records.proofs.laws.no_batch_is_longer.Goals as goal

pub returns : goal.returns
returns c = batch_most
