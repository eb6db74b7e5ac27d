-- How far a site's clock and its open transactions go.
use Rattle.std.specs.Prelude.{ℕ, ◌-◌, ◌^◌, ◌≤◌, length}
use Rattle.helios_model.specs.Limits.{most_open}
use Rattle.helios_model.specs.Plans.{PlanData}
use Rattle.helios_model.specs.Node.{Node, clock, own_open}
use Rattle.protocol_laws.specs.Reached.{AtEachNode}

-- the greatest time that the clock of a site comes to, in half microseconds
abbrev pub highest_clock : ℕ
highest_clock = 2 ^ 62 - 2 ^ 16

-- a site has no more own unfinished transactions than it may, and its clock comes to no greater time
pub record StaysBelow (plan : PlanData) (n : Node) : Type 0 where
  pub few_open : length (own_open n) ≤ most_open
  pub low_clock : clock plan n ≤ highest_clock

abbrev pub EachNodeStaysBelow : Type 0
EachNodeStaysBelow = AtEachNode StaysBelow
