use Rattle.std.proofs.Common.{[], ◌∷◌}
use Rattle.schedule_replay.proofs.Told.{told_both, told_none}
use Rattle.schedule_replay.proofs.output.Output.tell_all.Goals as goal

pub loop-reply-init : goal.loop-reply-init
loop-reply-init c = told_none c.args.number c.args.site c.args.self.now c.requires.counted

pub loop-reply-preserved : goal.loop-reply-preserved
loop-reply-preserved c =
    told_both c.args.number c.args.site c.args.self.now c.loop-reply.self c.tell.new.self c.loop-reply.yielded (c.in-Some.reply ∷ []) c.loop-reply.invariant c.in_ok-tell.ensures
