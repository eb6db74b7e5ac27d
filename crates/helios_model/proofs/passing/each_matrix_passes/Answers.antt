use Rattle.helios_model.proofs.PassedTests.{each_matrix_passes}
use Rattle.helios_model.proofs.passing.each_matrix_passes.Goals as goal

pub returns : goal.returns
returns c = each_matrix_passes
