use Rattle.protocol_laws.proofs.WorldLaws.{each_conflict_is_ordered}
use Rattle.protocol_laws.proofs.laws.each_conflict_is_ordered.Goals as goal

pub returns : goal.returns
returns c = each_conflict_is_ordered
