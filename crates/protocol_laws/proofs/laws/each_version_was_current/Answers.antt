use Rattle.protocol_laws.proofs.WorldLaws.{each_version_was_current}
use Rattle.protocol_laws.proofs.laws.each_version_was_current.Goals as goal

pub returns : goal.returns
returns c = each_version_was_current
