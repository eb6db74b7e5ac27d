use Rattle.log_records.proofs.MessageTaken.{message_taken}
use Rattle.log_records.proofs.laws.what_is_read_is_a_message.Goals as goal

pub returns : goal.returns
returns c = message_taken
