use Rattle.helios_model.proofs.ShortPairs.{each_short_pair_is_found}
use Rattle.helios_model.proofs.short.each_short_pair_is_found.Goals as goal

pub returns : goal.returns
returns c = each_short_pair_is_found
