use Rattle.std.proofs.Common.{◌∙◌, ap, sym}
use Rattle.schedule_replay.specs.Entries.{version_for}
use Rattle.schedule_replay.proofs.entries.version_for.Goals as goal

pub returns-in-Current-clause-value : goal.returns-in-Current-clause-value
returns-in-Current-clause-value c = λ plan n h. c.current.ensures.version plan n h ∙ ap (version_for n.log c.args.read.now.key) (sym c.in-Current.is)
