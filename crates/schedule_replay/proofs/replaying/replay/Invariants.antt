use Rattle.std.proofs.Common.{◌≡◌, None, take}
use Rattle.schedule_replay.specs.Refusals.{first_refusal}
use Rattle.schedule_replay.specs.Walks.{IsWalkAt}
use Rattle.schedule_replay.proofs.replaying.replay.Given as goal

abbrev pub invariant-loop-step : goal.invariant-loop-step
invariant-loop-step l = record {
  stands : IsWalkAt l.schedule.plan (take l.step-index l.schedule.steps) l.walk l.bench;
  unrefused : first_refusal l.schedule.plan (take l.step-index l.schedule.steps) ≡ None;
}
