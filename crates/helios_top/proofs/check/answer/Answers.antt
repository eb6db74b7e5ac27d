-- What `check` says of the plan that was read is the answer.
use Rattle.helios_top.proofs.Checks.{check_ends}
use Rattle.helios_top.proofs.check.answer.Goals as goal

pub returns-in-Ok : goal.returns-in-Ok
returns-in-Ok c = check_ends c.args.text.now c.in-Ok.plan c.in-Ok.certificate c.check.result c.in-Ok.ensures.exact c.check.ensures.says c.check.ensures.optimal
