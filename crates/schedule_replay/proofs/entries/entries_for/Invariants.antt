use Rattle.std.proofs.Common.{◌≡◌, All, take}
use Rattle.commit_rules.specs.Core.{IsCoreOf}
use Rattle.helios_model.specs.Node.{Node}
use Rattle.helios_model.specs.Plans.{PlanData}
use Rattle.helios_model.specs.Step.{MayBeAsked}
use Rattle.schedule_replay.specs.Entries.{entries_for}
use Rattle.schedule_replay.proofs.entries.entries_for.Given as goal

abbrev pub invariant-loop-input : goal.invariant-loop-input
invariant-loop-input l = record {
  value : (plan : PlanData) (n : Node) → IsCoreOf l.host.core plan n → l.entries.items ≡ entries_for n.log l.sent (take l.input-index l.inputs);
  asked : All (λ e. MayBeAsked l.host.core.plan l.host.core.site e.input) l.entries.items;
}
