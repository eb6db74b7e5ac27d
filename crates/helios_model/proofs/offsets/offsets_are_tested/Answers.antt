use Rattle.helios_model.proofs.OffsetTests.{offset_is_tested}
use Rattle.helios_model.proofs.offsets.offsets_are_tested.Goals as goal

pub returns : goal.returns
returns c = offset_is_tested
