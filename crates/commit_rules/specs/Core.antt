-- What a core stands for.
use Rattle.std.specs.Prelude.{◌≡◌, ℕ, ◌-◌, ◌^◌, List, length, min}
use Rattle.helios_model.specs.declared.entries.State.{State}
use Rattle.helios_model.specs.declared.records.Record.{Record}
use Rattle.helios_model.specs.Transactions.{Transaction}
use Rattle.helios_model.specs.Plans.{PlanData, count_of}
use Rattle.helios_model.specs.Node.{Node}
use Rattle.version_store.specs.declared.held.Held.{Held}
use Rattle.log_exchange.specs.Kept.{needed}
use Rattle.site_ledger.specs.Ledger.{AreEnds, IsKept}
use Rattle.site_node.specs.Node.{SiteData}
use Rattle.node_limits.specs.Limits.{IsWithinLimits}

-- a core as contracts see it: of its site's log there is the length, and what is looked up in it
pub record CoreState : Type 0 where
  pub plan : PlanData
  pub site : ℕ
  pub table : List ℕ
  pub length : ℕ
  pub pools : List Transaction
  pub store : List (List ℕ × Held)
  pub ended : List (ℕ × State)
  pub kept : List Record

-- a core stands for a node of a plan: it keeps exactly the records that some site is not known to have, and the node is one
-- within limits, as every node is that entries make of an empty one
pub record IsCoreOf (core : CoreState) (plan : PlanData) (n : Node) : Type 0 where
  pub of_plan : core.plan ≡ plan
  pub at_site : core.site ≡ n.site
  pub of_table : core.table ≡ n.table
  pub of_length : core.length ≡ min (length n.log) (2 ^ 64 - 1)
  pub lookups : IsKept n.log core.pools core.store
  pub ends : AreEnds n.site n.log core.ended
  pub keeps : core.kept ≡ needed (count_of plan) n.table n.log
  pub within : IsWithinLimits plan n

-- there is a node for which the core stands
pub record HasNode (core : CoreState) : Type 0 where
  pub node : Node
  pub is : IsCoreOf core core.plan node

abbrev pub core_of : SiteData → ℕ → CoreState
core_of s log_length = record {
  plan = s.plan;
  site = s.ledger.site;
  table = s.table;
  length = log_length;
  pools = s.ledger.pools;
  store = s.ledger.store;
  ended = s.ledger.ended;
  kept = s.ledger.kept;
}
