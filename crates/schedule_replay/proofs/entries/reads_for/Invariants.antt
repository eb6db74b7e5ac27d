use Rattle.std.proofs.Common.{◌≡◌, All, map, take}
use Rattle.commit_rules.specs.Core.{IsCoreOf}
use Rattle.helios_model.specs.Node.{Node}
use Rattle.helios_model.specs.Plans.{PlanData}
use Rattle.helios_model.specs.Spellable.{IsSpellableVersion}
use Rattle.schedule_replay.specs.Entries.{read_for}
use Rattle.schedule_replay.proofs.entries.reads_for.Given as goal

abbrev pub invariant-loop-read : goal.invariant-loop-read
invariant-loop-read l = record {
  value : (plan : PlanData) (n : Node) → IsCoreOf l.host.core plan n → l.items.items ≡ map (read_for n.log) (take l.read-index l.reads);
  keys : map (λ r. r.key) l.items.items ≡ map (λ r. r.key) (take l.read-index l.reads);
  spelled : All (λ r. IsSpellableVersion r.version) l.items.items;
}
