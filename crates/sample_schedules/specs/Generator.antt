-- The generator of sample schedules: the plan, each step from the Pulls made before it, and the steps in their order.
use Rattle.std.specs.Prelude.{ℕ, zero, suc, ◌+◌, ◌-◌, ◌*◌, ◌/◌, ◌%◌, ◌==◌, nat_lt, List, [], ◌∷◌, ◌++◌, length, map, min, replicate, slice_index, Option, Some, None, if◌then◌else◌, codes, decimal}
use Rattle.std.specs.Int.{abs_diff}
use Rattle.std.specs.List.{filter_map, range_with_len}
use Rattle.disk_store.specs.declared.fate.Keep.TheVariants.{Byte}
use Rattle.disk_store.specs.declared.fate.Stop.{Stop}
use Rattle.helios_model.specs.Plans.{PlanData}
use Rattle.schedule_text.specs.declared.planned.Planned.{Planned}
use Rattle.schedule_text.specs.declared.planned.Planned.TheVariants.{Get, Status, Request, Pull, Push}
use Rattle.schedule_text.specs.declared.planned.PlannedVersion.TheVariants.{Current}
use Rattle.schedule_text.specs.declared.steps.Schedule.{Schedule}
use Rattle.schedule_text.specs.declared.steps.Step.{Step}
use Rattle.schedule_text.specs.declared.steps.Step.TheVariants.{Batch, Restart}
use Rattle.sample_schedules.specs.Draws.{Drawn, ◌>>=◌, draw, gives}

-- ---- the plan: sites in a line, a millisecond from each to the next and back

-- s0, s1 and so on
abbrev pub site_name : ℕ → List ℕ
site_name i = codes "s" ++ decimal i

-- the round trip between two sites, in microseconds
abbrev pub trip : ℕ → ℕ → ℕ
trip i j = 1000 * abs_diff i j

-- the one at a place of the square of so many sites
abbrev pub trip_in : ℕ → ℕ → ℕ
trip_in sites place = trip (place / sites) (place % sites)

-- the round trips row after row, and for each site half the longest of them as its latency, in half microseconds
unfoldable pub line_plan : ℕ → PlanData
line_plan sites = record {
  names = map site_name (range_with_len 0 sites);
  trips = map (trip_in sites) (range_with_len 0 (sites * sites));
  latencies = replicate sites (1000 * (sites - 1));
}

-- ---- the steps at a site s whose clock shows t

-- a batch of one input
abbrev pub batch : ℕ → Planned → Option Stop → Step
batch s input stop = Batch s (input ∷ []) stop

-- the letter k and a number
abbrev pub key_name : ℕ → List ℕ
key_name number = codes "k" ++ decimal number

-- a request of the step with number i: first the key that it reads, then the key that it writes
unfoldable pub request : ℕ → ℕ → Drawn Planned
request t i = do
  a ← draw 50
  b ← draw 50
  gives (Request t (record { key = key_name a; version = Current } ∷ []) (record { key = key_name b; value = decimal i } ∷ []))

-- where a batch stops: first the call, then the byte that is kept
unfoldable pub batch_stop : Drawn Stop
batch_stop = do
  call ← draw 4
  byte ← draw 2
  gives (record { call = 1 + call; keep = Byte byte })

-- a Request
unfoldable pub plain_request : ℕ → ℕ → ℕ → Drawn Step
plain_request s t i = do
  asked ← request t i
  gives (batch s asked None)

-- a Request, and then its stop
unfoldable pub stopped_request : ℕ → ℕ → ℕ → Drawn Step
stopped_request s t i = do
  asked ← request t i
  stop ← batch_stop
  gives (batch s asked (Some stop))

-- the site with number d of those other than s
abbrev pub other_site : ℕ → ℕ → ℕ
other_site s d = if nat_lt d s then d else d + 1

-- a Pull to another site
unfoldable pub pull : ℕ → ℕ → ℕ → Drawn Step
pull sites s t = do
  d ← draw (sites - 1)
  gives (batch s (Pull t (other_site s d)) None)

-- the Push of message m, at the site that the Pull with this number was to
abbrev pub push_of : List ℕ → ℕ → ℕ → Step
push_of pulls t m = batch (slice_index pulls m) (Push t m) None

-- the Push of one of the last sixteen messages, counted back from the newest
unfoldable pub push_recent : List ℕ → ℕ → Drawn Step
push_recent pulls t = do
  back ← draw (min (length pulls) 16)
  gives (push_of pulls t (length pulls - 1 - back))

-- a Push, or a Pull where none was made before
abbrev pub push : ℕ → List ℕ → ℕ → ℕ → Drawn Step
push sites pulls s t = if length pulls == 0 then pull sites s t else push_recent pulls t

-- one in ten a Restart, one in ten a Request that is stopped, and else a Push
abbrev pub rare_of : ℕ → List ℕ → ℕ → ℕ → ℕ → ℕ → Drawn Step
rare_of sites pulls i s t c =
    if c == 0 then gives (Restart s None)
    else (if c == 1 then stopped_request s t i
    else push sites pulls s t)

unfoldable pub rare : ℕ → List ℕ → ℕ → ℕ → ℕ → Drawn Step
rare sites pulls i s t = draw 10 >>= rare_of sites pulls i s t

-- four in eight a Request, two a Pull, one a Push, and one a rarer step
abbrev pub step_of : ℕ → List ℕ → ℕ → ℕ → ℕ → ℕ → Drawn Step
step_of sites pulls i s t k =
    if nat_lt k 4 then plain_request s t i
    else (if nat_lt k 6 then pull sites s t
    else (if k == 6 then push sites pulls s t
    else rare sites pulls i s t))

-- the step with number i behind these Pulls: first its site, then what its clock shows, then its kind
unfoldable pub step : ℕ → List ℕ → ℕ → Drawn Step
step sites pulls i = do
  s ← draw sites
  past ← draw 5000
  k ← draw 8
  step_of sites pulls i s (1000 * i + past) k

-- ---- the schedule

-- the site that a Pull is to
abbrev pub target : Planned → Option ℕ
target (Get key) = None
target (Status id) = None
target (Request at reads puts) = None
target (Pull at to) = Some to
target (Push at message) = None

-- the sites that the Pulls of a step are to
abbrev pub pulled : Step → List ℕ
pulled (Batch site inputs stop) = filter_map target inputs
pulled (Restart site stop) = []

-- so many steps, from number i and a state on, behind these Pulls
unfoldable pub steps_from : ℕ → ℕ → ℕ → List ℕ → ℕ → List Step
steps_from sites zero i pulls x = []
steps_from sites (suc more) i pulls x =
    let made = step sites pulls i x in
    made.0 ∷ steps_from sites more (i + 1) (pulls ++ pulled made.0) made.1

-- the schedule of a number
abbrev pub sample_schedule : ℕ → ℕ → ℕ → Schedule
sample_schedule number sites steps = record { plan = line_plan sites; steps = steps_from sites steps 0 [] number }
