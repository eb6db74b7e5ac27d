use Rattle.helios_model.proofs.PassedTests.{each_search_finds_first}
use Rattle.helios_model.proofs.passing.each_search_finds_first.Goals as goal

pub returns : goal.returns
returns c = each_search_finds_first
