use Rattle.schedule_replay.specs.Taking.{HasTold}
use Rattle.schedule_replay.proofs.output.Output.tell_all.Given as goal

abbrev pub invariant-loop-reply : goal.invariant-loop-reply
invariant-loop-reply l = HasTold l.number l.site l.initial.self l.yielded l.self
