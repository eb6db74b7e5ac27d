-- What is told and committed: the serial history, the refusals that name their cause, and what stays.
use Rattle.std.specs.Prelude.{◌≡◌, ℕ, ◌<◌, ◌≤◌, List, [], ◌∷◌, ◌++◌, length, filter, All}
use Rattle.helios_model.specs.Plans.{PlanData, IsAccepted, count_of}
use Rattle.helios_model.specs.Log.{commits}
use Rattle.helios_model.specs.Node.{known}
use Rattle.helios_model.specs.Serial.{IsSerial}
use Rattle.helios_model.specs.NamedAbort.{ToldIsNamed}
use Rattle.helios_model.specs.World.{World, Event, MayRun, first_world, node_of, is_own_commit, run}
use Rattle.helios_model.specs.World.Event.{Batch, Restart}
use Rattle.protocol_laws.specs.Reached.{InEachWorld}

-- the history is a serial one in each world of an accepted plan
abbrev pub HistoryIsSerial : Type 0
HistoryIsSerial = InEachWorld (λ plan w. IsAccepted plan → IsSerial w.history)

-- each batch is of this site
abbrev pub AreAt : ℕ → List Event → Type 0
AreAt site [] = Unit {0}
AreAt site (Batch here entries ending ∷ events) = (here ≡ site) × AreAt site events
AreAt site (Restart here ∷ events) = AreAt site events

-- where all batches are of one site, the history is a serial one, whatever the plan
abbrev pub SerialAtOneSite : Type 0
SerialAtOneSite = (plan : PlanData) (site : ℕ) → site < count_of plan → (events : List Event) → AreAt site events
    → MayRun plan (first_world plan) events → IsSerial (run plan (first_world plan) events).history

-- the events of each site are, in order, the own Commits of its log, and there are no others
pub record HistoryIsCommits (plan : PlanData) (w : World) : Type 0 where
  pub own : (k : ℕ) → k < count_of plan
      → filter (is_own_commit k) w.history ≡ filter (is_own_commit k) (commits (node_of plan w k).log)
  pub sites : All (λ e. e.prepare.id.site < count_of plan) w.history

abbrev pub EachHistoryIsCommits : Type 0
EachHistoryIsCommits = InEachWorld HistoryIsCommits

abbrev pub EachRefusalIsNamed : Type 0
EachRefusalIsNamed = InEachWorld (λ plan w. All (ToldIsNamed plan w) w.told)

-- one list begins with the other
pub record GrowsTo {X : Type 0} (old new : List X) : Type 0 where
  pub more : List X
  pub grown : new ≡ old ++ more

-- what is told, sent, committed or logged stays where it is, and no time in a site's table falls
pub record WorldGrowsTo (plan : PlanData) (w v : World) : Type 0 where
  pub told : GrowsTo w.told v.told
  pub sent : GrowsTo w.sent v.sent
  pub history : GrowsTo w.history v.history
  pub logs : (k : ℕ) → k < count_of plan → GrowsTo (node_of plan w k).log (node_of plan v k).log
  pub times : (k a b : ℕ) → k < count_of plan → a < count_of plan → b < count_of plan
      → known plan (node_of plan w k) a b ≤ known plan (node_of plan v k) a b

-- so it is whatever happens, in any world whose journals are as many as the plan's sites
abbrev pub EachWorldGrows : Type 0
EachWorldGrows = (plan : PlanData) (w : World) (events : List Event) → length w.journals ≡ count_of plan → WorldGrowsTo plan w (run plan w events)
