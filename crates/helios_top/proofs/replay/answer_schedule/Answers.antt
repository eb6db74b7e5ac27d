-- Where there is no memory for what is told, the bench stands for all steps.
use Rattle.helios_top.proofs.Replays.{left_at_the_end}
use Rattle.helios_top.proofs.replay.answer_schedule.Goals as goal

pub returns-in_err-text_of-in-Ok-clause-leaves : goal.returns-in_err-text_of-in-Ok-clause-leaves
returns-in_err-text_of-in-Ok-clause-leaves c =
    left_at_the_end c.args.told c.args.schedule.now c.replay.new.bench c.in-Ok.report c.from_residual.result _ c.from_residual.ensures.1 c.in-Ok.ensures.replays
