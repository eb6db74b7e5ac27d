-- What a node has heard, and which own transaction commits next.
use Rattle.std.specs.Prelude.{◌≡◌, ℕ, ◌+◌, Bool, ◌||◌, true, ◌∷◌, length, nat_eq}
use Rattle.std.specs.List.{list_all, range_with_len}
use Rattle.helios_model.specs.declared.ids.TxnId.{TxnId}
use Rattle.helios_model.specs.Node.{Node, own_open}
use Rattle.helios_model.specs.Offset.{is_past}
use Rattle.helios_model.specs.Plans.{PlanData, count_of}
use Rattle.helios_model.specs.Settle.{commit_one, ready}
use Rattle.site_ledger.specs.Ledger.{Base, holds_id}
use Rattle.site_node.specs.Node.{IsNodeOf, SiteData, node_in, row_in}

-- the site has heard of another one past the offset of an own transaction at this time; of itself it has
abbrev pub is_heard_in : SiteData → ℕ → ℕ → Bool
is_heard_in s time j = nat_eq j s.ledger.site || is_past s.plan s.ledger.site j time (row_in s j)

-- it has heard so far of every other one: whatever the log, this is the rule of the node
abbrev pub is_reached_in : SiteData → ℕ → Bool
is_reached_in s time = list_all (is_heard_in s time) (range_with_len 0 (count_of s.plan))

-- a transaction commits before all others; behind its Commit those do that did, and one less is open
pub record Goes (plan : PlanData) (n : Node) (id : TxnId) : Type 0 where
  pub first : ready plan n ≡ id ∷ ready plan (commit_one plan n id)
  pub fewer : length (own_open (commit_one plan n id)) + 1 ≡ length (own_open n)

-- an own unfinished transaction is the first that commits
pub record CommitsFirst (s : SiteData) (id : TxnId) : Type 0 where
  pub own : id.site ≡ s.ledger.site
  pub held : holds_id s.ledger.pools id ≡ true
  pub first : (b : Base) → IsNodeOf b s → Goes s.plan (node_in b s) id
