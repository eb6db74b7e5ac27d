use Rattle.std.proofs.Common.{◌∙◌, sym}
use Rattle.commit_rules.proofs.Answering.{pulled_at}
use Rattle.commit_rules.proofs.answers.unless_spent_pull.Goals as goal

pub returns-clause-answer : goal.returns-clause-answer
returns-clause-answer c =
    λ b is sound.
    pulled_at b c.args.node c.in_ok-advanced.advanced c.args.reading c.args.to c.in_ok-advanced.message (sym c.is_spent.ensures ∙ c.if-is_spent.false)
    (c.in_ok-advanced.ensures.node b is) (c.in_ok-advanced.ensures.message b is)
