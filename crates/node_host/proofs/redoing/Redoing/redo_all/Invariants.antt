use Rattle.std.proofs.Common.{◌≡◌, List, ◌++◌, is_some}
use Rattle.helios_model.specs.declared.entries.Entry.{Entry}
use Rattle.helios_model.specs.Node.{Node}
use Rattle.helios_model.specs.Plans.{PlanData}
use Rattle.node_host.specs.Answering.{HasRedone}
use Rattle.node_host.proofs.redoing.Redoing.redo_all.Given as goal

abbrev pub invariant-loop-entry : goal.invariant-loop-entry
invariant-loop-entry l = record {
  redone : (plan : PlanData) (n : Node) (before : List Entry) → HasRedone plan n before l.fn.self.core l.fn.self.commits.items l.fn.self.log
      → HasRedone plan n (before ++ l.yielded) l.redoing.core l.redoing.commits.items l.redoing.log;
  kept : is_some l.redoing.log ≡ is_some l.fn.self.log;
  plan : l.redoing.core.plan ≡ l.fn.self.core.plan;
  site : l.redoing.core.site ≡ l.fn.self.core.site;
}
