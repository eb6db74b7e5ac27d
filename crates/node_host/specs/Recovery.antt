-- What the batches of a journal make of the empty node.
use Rattle.std.specs.Prelude.{ℕ, List, [], length, fold}
use Rattle.helios_model.specs.declared.entries.Entry.{Entry}
use Rattle.helios_model.specs.declared.records.CommitEvent.{CommitEvent}
use Rattle.helios_model.specs.Plans.{PlanData}
use Rattle.helios_model.specs.Node.{Node, empty_node}
use Rattle.helios_model.specs.Step.{after_entries}
use Rattle.helios_model.specs.World.{own_commits}

-- a node, and the own Commits of the last batch that it took
pub record Recovered : Type 0 where
  pub node : Node
  pub last : List CommitEvent

-- the node takes one batch more
abbrev pub take_batch : PlanData → Recovered → List Entry → Recovered
take_batch plan r batch = record {
  node = after_entries plan r.node batch;
  last = own_commits r.node.site (after_entries plan r.node batch).log (length r.node.log);
}

abbrev pub first_recovered : PlanData → ℕ → Recovered
first_recovered plan site = record { node = empty_node plan site; last = [] }

-- what all the batches make of the empty node
unfoldable pub recovered : PlanData → ℕ → List (List Entry) → Recovered
recovered plan site batches = fold (take_batch plan) (first_recovered plan site) batches
