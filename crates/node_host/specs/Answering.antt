-- What a core answers to a batch.
use Rattle.std.specs.Prelude.{◌≡◌, List, length, map, Option, IfSome}
use Rattle.helios_model.specs.declared.entries.Entry.{Entry}
use Rattle.helios_model.specs.declared.entries.Reply.{Reply}
use Rattle.helios_model.specs.declared.records.CommitEvent.{CommitEvent}
use Rattle.helios_model.specs.declared.records.Record.{Record}
use Rattle.helios_model.specs.Plans.{PlanData}
use Rattle.helios_model.specs.Node.{Node}
use Rattle.helios_model.specs.Step.{after_entries}
use Rattle.helios_model.specs.World.{own_commits, replies}
use Rattle.commit_rules.specs.Core.{CoreState, IsCoreOf}

-- a node's replies to these entries, one after the other
abbrev pub answers : PlanData → Node → List Entry → List Reply
answers plan n entries = map (λ t. t.reply) (replies plan n entries)

-- a core stands for the node after these entries, with the node's replies to them and the own Commits among what its log grew by
pub record HasAnswered (plan : PlanData) (n : Node) (entries : List Entry) (core : CoreState) (given : List Reply) (commits : List CommitEvent) : Type 0 where
  pub stands : IsCoreOf core plan (after_entries plan n entries)
  pub replied : given ≡ answers plan n entries
  pub committed : commits ≡ own_commits n.site (after_entries plan n entries).log (length n.log)

-- the same where nobody waits for the replies, and with the node's whole log where it is kept
pub record HasRedone (plan : PlanData) (n : Node) (entries : List Entry) (core : CoreState) (commits : List CommitEvent) (log : Option (List Record)) : Type 0 where
  pub answered : HasAnswered plan n entries core (answers plan n entries) commits
  pub logged : IfSome log (λ records. records ≡ (after_entries plan n entries).log)
