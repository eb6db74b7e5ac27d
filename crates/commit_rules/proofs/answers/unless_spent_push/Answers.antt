use Rattle.std.proofs.Common.{◌∙◌, sym}
use Rattle.commit_rules.proofs.Answering.{pushed_at}
use Rattle.commit_rules.proofs.answers.unless_spent_push.Goals as goal

pub returns-clause-answer : goal.returns-clause-answer
returns-clause-answer c =
    λ b is sound.
    pushed_at b c.args.node c.in_ok-pushed.pushed c.args.reading c.args.m (sym c.is_spent.ensures ∙ c.if-is_spent.false) (c.in_ok-pushed.ensures.node b is sound)
