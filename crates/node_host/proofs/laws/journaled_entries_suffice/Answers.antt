use Rattle.node_host.proofs.Suffice.{journaled_suffice}
use Rattle.node_host.proofs.laws.journaled_entries_suffice.Goals as goal

pub returns : goal.returns
returns c = journaled_suffice
