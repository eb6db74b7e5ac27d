use Rattle.protocol_laws.proofs.SpelledCommits.{each_commit_is_spellable}
use Rattle.protocol_laws.proofs.laws.each_commit_is_spellable.Goals as goal

pub returns : goal.returns
returns c = each_commit_is_spellable
