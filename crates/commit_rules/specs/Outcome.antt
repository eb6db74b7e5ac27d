-- What a step of a core gives, and what a summary says.
use Rattle.std.specs.Prelude.{◌≡◌, ◌-◌, ◌^◌, length, min, drop}
use Rattle.helios_model.specs.declared.entries.Entry.{Entry}
use Rattle.helios_model.specs.Plans.{PlanData}
use Rattle.helios_model.specs.Node.{Node, clock, own_open}
use Rattle.helios_model.specs.Step.{step}
use Rattle.helios_model.specs.World.{own_commits}
use Rattle.commit_rules.specs.declared.rules.Outcome.{Outcome}
use Rattle.commit_rules.specs.declared.rules.Redone.{Redone}
use Rattle.commit_rules.specs.declared.rules.Summary.{Summary}
use Rattle.commit_rules.specs.Core.{IsCoreOf}

-- a core that stands for the node after the step, the node's answer, what its log grew by, and the own Commits among that
pub record IsOutcome (plan : PlanData) (n : Node) (entry : Entry) (out : Outcome) : Type 0 where
  pub core : IsCoreOf out.core plan (step plan n entry).node
  pub reply : out.reply ≡ (step plan n entry).reply
  pub added : out.added ≡ drop (length n.log) (step plan n entry).node.log
  pub commits : out.commits ≡ own_commits n.site (step plan n entry).node.log (length n.log)

-- the same of a step whose answer nobody waits for
pub record IsRedone (plan : PlanData) (n : Node) (entry : Entry) (out : Redone) : Type 0 where
  pub core : IsCoreOf out.core plan (step plan n entry).node
  pub commits : out.commits ≡ own_commits n.site (step plan n entry).node.log (length n.log)

-- the own time, the length of the log, of which a greater one counts as 2^64 - 1, and the number of own unfinished transactions
pub record IsSummaryOf (plan : PlanData) (n : Node) (s : Summary) : Type 0 where
  pub time : s.time ≡ clock plan n
  pub log : s.log ≡ min (length n.log) (2 ^ 64 - 1)
  pub pending : s.pending ≡ length (own_open n)
