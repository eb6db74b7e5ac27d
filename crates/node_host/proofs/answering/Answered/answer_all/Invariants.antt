use Rattle.std.proofs.Common.{◌≡◌, List, ◌++◌}
use Rattle.helios_model.specs.declared.entries.Entry.{Entry}
use Rattle.helios_model.specs.Node.{Node}
use Rattle.helios_model.specs.Plans.{PlanData}
use Rattle.helios_model.specs.Spellable.{IsSpellableReply}
use Rattle.std.specs.List.{All}
use Rattle.node_host.specs.Answering.{HasAnswered}
use Rattle.node_host.proofs.answering.Answered.answer_all.Given as goal

abbrev pub invariant-loop-entry : goal.invariant-loop-entry
invariant-loop-entry l = record {
  answered : (plan : PlanData) (n : Node) (before : List Entry) → HasAnswered plan n before l.fn.self.core l.fn.self.replies.items l.fn.self.commits.items
      → HasAnswered plan n (before ++ l.yielded) l.answered.core l.answered.replies.items l.answered.commits.items;
  spelled : All IsSpellableReply l.fn.self.replies.items → All IsSpellableReply l.answered.replies.items;
  plan : l.answered.core.plan ≡ l.fn.self.core.plan;
  site : l.answered.core.site ≡ l.fn.self.core.site;
}
