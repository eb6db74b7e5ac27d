-- What every core keeps, so that whatever it tells has a spelling.
use Rattle.std.specs.Prelude.{◌≡◌, ◌≢◌, ℕ, ◌-◌, ◌*◌, ◌^◌, ◌<◌, ◌≤◌, List, [], length, All, false}
use Rattle.helios_model.specs.declared.records.Record.{Record}
use Rattle.helios_model.specs.Limits.{last_time, most_open, most_sites}
use Rattle.helios_model.specs.Log.{origin, own_time}
use Rattle.helios_model.specs.Exchange.{is_passed}
use Rattle.helios_model.specs.Spellable.{IsSpellableRecord, OwnTimesRiseByOrigin}
use Rattle.helios_model.specs.Plans.{PlanData, count_of}
use Rattle.helios_model.specs.Node.{Node, clock, known, own_open}
use Rattle.helios_model.specs.Settle.{ready}

-- the greatest time that a site's clock comes to
abbrev pub highest_clock : ℕ
highest_clock = 2 ^ 62 - 2 ^ 16

-- the records of a log have a spelling and rise by origin, the own ones up to the clock and the others up to a bound
pub record IsSound (count site clock : ℕ) (bound : ℕ → ℕ) (log : List Record) : Type 0 where
  pub records : All (IsSpellableRecord count) log
  pub rise : OwnTimesRiseByOrigin log
  pub own : All (λ r. origin r ≡ site → own_time r ≤ clock) log
  pub others : All (λ r. origin r ≢ site → own_time r ≤ bound (origin r)) log

-- a node with a sound log by its own row, and a table of small times
pub record IsSoundNode (plan : PlanData) (n : Node) : Type 0 where
  pub here : n.site < count_of plan
  pub sized : length n.table ≡ count_of plan * count_of plan
  pub small : All (λ time. time ≤ last_time) n.table
  pub sound : IsSound (count_of plan) n.site (clock plan n) (known plan n n.site) n.log

-- the same with few open transactions, a clock that leaves room for their ends, and no own open one that could commit
pub record IsWithinLimits (plan : PlanData) (n : Node) : Type 0 where
  pub few : count_of plan ≤ most_sites
  pub node : IsSoundNode plan n
  pub few_open : length (own_open n) ≤ most_open
  pub low_clock : clock plan n ≤ highest_clock
  pub waits : ready plan n ≡ []

-- each record of the log of the same origin was made before
abbrev pub IsAfter : List Record → Record → Type 0
IsAfter log r = All (λ x. origin x ≡ origin r → own_time x < own_time r) log

-- a record of a message, where it is not passed over, was made after all that the log has of its origin
abbrev pub MayTake : ℕ → (ℕ → ℕ) → List Record → Record → Type 0
MayTake site row log r = is_passed site row r ≡ false → IsAfter log r
