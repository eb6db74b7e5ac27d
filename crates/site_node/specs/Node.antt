-- A site's node as its parts, and how a step of it changes the node that they stand for.
use Rattle.std.specs.Prelude.{◌≡◌, ℕ, ◌+◌, ◌^◌, ◌≤◌, List, length}
use Rattle.helios_model.specs.Grid.{at}
use Rattle.helios_model.specs.Plans.{PlanData, count_of}
use Rattle.helios_model.specs.Node.{Node}
use Rattle.log_exchange.specs.Kept.{needed}
use Rattle.site_ledger.specs.Ledger.{Base, IsLedgerOf, LedgerData, log_in}
use Rattle.node_limits.specs.Limits.{IsSoundNode, IsWithinLimits}

-- the plan, the site's table of times row after row, and its ledger
pub record SiteData : Type 0 where
  pub plan : PlanData
  pub table : List ℕ
  pub ledger : LedgerData

-- the node to which the parts came from what its log was as the step began
abbrev pub node_in : Base → SiteData → Node
node_in b s = record { site = s.ledger.site; log = log_in b s.ledger; table = s.table }

-- the parts stand for that node: of its records, what was kept are all that some site needs by the table
pub record IsNodeOf (b : Base) (s : SiteData) : Type 0 where
  pub ledger : IsLedgerOf b s.ledger
  pub needs : needed (count_of s.plan) s.table b.kept ≡ needed (count_of s.plan) s.table b.log

-- the parts after a step stand for the node that this makes of the one before
pub record BecomesAt (b : Base) (before after : SiteData) (change : Node → Node) : Type 0 where
  pub stands : IsNodeOf b after
  pub node : node_in b after ≡ change (node_in b before)

-- whatever node the parts stood for, they stand for what this makes of it
abbrev pub Becomes : SiteData → SiteData → (Node → Node) → Type 0
Becomes before after change = (b : Base) → IsNodeOf b before → BecomesAt b before after change

-- the node's own time
abbrev pub clock_in : SiteData → ℕ
clock_in s = at (count_of s.plan) s.table s.ledger.site s.ledger.site

-- up to when the site knows each other one
abbrev pub row_in : SiteData → ℕ → ℕ
row_in s site = at (count_of s.plan) s.table s.ledger.site site

-- each record brings the clock on by at most 1, so that it stays far below the end of its type
abbrev pub IsBounded : SiteData → Type 0
IsBounded s = clock_in s ≤ 2 ^ 62 + length s.ledger.added

-- there is a node for which the parts stand whose log and table are sound
pub record HasSoundNode (s : SiteData) : Type 0 where
  pub base : Base
  pub is : IsNodeOf base s
  pub sound : IsSoundNode s.plan (node_in base s)

-- there is a node for which the parts stand that is within the limits
pub record HasNodeWithin (s : SiteData) : Type 0 where
  pub base : Base
  pub is : IsNodeOf base s
  pub within : IsWithinLimits s.plan (node_in base s)

-- the parts are of the same plan and site
pub record IsSamePlace (before after : SiteData) : Type 0 where
  pub plan : after.plan ≡ before.plan
  pub site : after.ledger.site ≡ before.ledger.site
