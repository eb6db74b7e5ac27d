-- How a step moves a world: the node of a batch's own site goes on by its entries, and the others stay.
use Rattle.std.specs.Prelude.{◌≡◌, ◌≢◌, false, ℕ, ◌<◌, List, length}
use Rattle.helios_model.specs.declared.entries.Entry.{Entry}
use Rattle.helios_model.specs.Plans.{PlanData, count_of}
use Rattle.helios_model.specs.Node.{Node, empty_node}
use Rattle.helios_model.specs.Step.{after_entry, after_entries, is_journaled}
use Rattle.helios_model.specs.World.{World, Ending, Event, first_world, node_of, happens}
use Rattle.helios_model.specs.World.Event.{Batch, Restart}
use Rattle.helios_model.specs.World.Ending.{Done, Kept, Lost}

-- what a batch makes of its site's node
abbrev pub after_batch : PlanData → Node → List Entry → Ending → Node
after_batch plan n entries Done = after_entries plan n entries
after_batch plan n entries Kept = after_entries plan n entries
after_batch plan n entries Lost = n

-- so it is from any world whose journals are as many as the plan's sites, by any entries
pub record BatchMovesOneNode : Type 0 where
  pub first_journals : (plan : PlanData) → length (first_world plan).journals ≡ count_of plan
  pub first_node : (plan : PlanData) (k : ℕ) → k < count_of plan → node_of plan (first_world plan) k ≡ empty_node plan k
  pub site_stays : (plan : PlanData) (w : World) (k : ℕ) → (node_of plan w k).site ≡ k
  pub unjournaled_stays : (plan : PlanData) (n : Node) (e : Entry) → is_journaled e.input ≡ false → after_entry plan n e ≡ n
  pub journals_stay : (plan : PlanData) (w : World) (event : Event) → length (happens plan w event).journals ≡ length w.journals
  pub node_here : (plan : PlanData) (w : World) (site : ℕ) (entries : List Entry) (ending : Ending) → site < length w.journals
      → node_of plan (happens plan w (Batch site entries ending)) site ≡ after_batch plan (node_of plan w site) entries ending
  pub node_elsewhere : (plan : PlanData) (w : World) (site other : ℕ) (entries : List Entry) (ending : Ending) → other ≢ site
      → node_of plan (happens plan w (Batch site entries ending)) other ≡ node_of plan w other
  pub node_restarted : (plan : PlanData) (w : World) (site k : ℕ) → node_of plan (happens plan w (Restart site)) k ≡ node_of plan w k
