use Rattle.log_records.proofs.MessageAgain.{messages_alone, records_alone}
use Rattle.log_records.proofs.laws.no_spelling_begins_another.Goals as goal

pub returns-clause-records : goal.returns-clause-records
returns-clause-records c = records_alone

pub returns-clause-messages : goal.returns-clause-messages
returns-clause-messages c = messages_alone
