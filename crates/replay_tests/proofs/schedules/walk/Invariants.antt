use Rattle.std.proofs.Common.{List}
use Rattle.schedule_text.specs.declared.steps.Step.{Step}
use Rattle.schedule_replay.specs.Walks.{IsWalkAt}
use Rattle.replay_tests.proofs.schedules.walk.Given as goal

abbrev pub invariant-loop-number : goal.invariant-loop-number
invariant-loop-number l = record { stands : (steps : List Step) × IsWalkAt l.schedule.plan steps l.walk l.bench }
