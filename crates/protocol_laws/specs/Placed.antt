-- Each site has its journal, and its node is its own.
use Rattle.std.specs.Prelude.{◌≡◌, ℕ, ◌*◌, length}
use Rattle.helios_model.specs.Plans.{PlanData, count_of}
use Rattle.helios_model.specs.Node.{Node}
use Rattle.helios_model.specs.World.{World, node_of}
use Rattle.protocol_laws.specs.Reached.{InEachWorld}

-- the node is this site's, and its table has a time for each two sites
pub record IsPlaced (plan : PlanData) (site : ℕ) (n : Node) : Type 0 where
  pub at_site : n.site ≡ site
  pub sized : length n.table ≡ count_of plan * count_of plan

-- each site has a journal, and its node is its own
pub record IsPlacedWorld (plan : PlanData) (w : World) : Type 0 where
  pub journals : length w.journals ≡ count_of plan
  pub nodes : (k : ℕ) → IsPlaced plan k (node_of plan w k)

abbrev pub EachNodeIsPlaced : Type 0
EachNodeIsPlaced = InEachWorld IsPlacedWorld
