use Rattle.std.proofs.Common.{◌≡◌, drop}
use Rattle.schedule_replay.specs.Refusals.{inputs_refusal}
use Rattle.schedule_replay.proofs.refusal.inputs_refusal.Given as goal

abbrev pub invariant-loop-input : goal.invariant-loop-input
invariant-loop-input l = inputs_refusal l.sent l.step l.site (drop l.input-index l.inputs) ≡ inputs_refusal l.sent l.step l.site l.inputs
