-- The first two sites, row by row, whose latencies together don't reach their round trip.
use Rattle.std.specs.Prelude.{◌≡◌, ℕ, ◌+◌, ◌*◌, ◌<◌, ◌≤◌, ◌&&◌, Bool, nat_lt, Option, Some, None, is_some, option_map, option_and_then, find}
use Rattle.helios_model.specs.Optimal.{sites_of}
use Rattle.helios_model.specs.Plans.{PlanData, IsAccepted, count_of, rtt, latency}

-- the latencies of two sites together reach their round trip
abbrev pub IsReached : PlanData → ℕ → ℕ → Type 0
IsReached plan i j = 2 * rtt plan i j ≤ latency plan i + latency plan j

-- a site and each later one below a bound reach their round trip
abbrev pub IsRowReached : PlanData → ℕ → ℕ → Type 0
IsRowReached plan i bound = (j : ℕ) → i < j → j < bound → IsReached plan i j

-- a site and a later one don't reach their round trip, and those between them do
pub record IsFirstShortInRow (plan : PlanData) (i j : ℕ) : Type 0 where
  pub ordered : i < j
  pub within : j < count_of plan
  pub short : latency plan i + latency plan j < 2 * rtt plan i j
  pub reached : IsRowReached plan i j

-- two sites don't reach their round trip, and all pairs before them, row by row, do
pub record IsFirstShort (plan : PlanData) (i j : ℕ) : Type 0 where
  pub row : IsFirstShortInRow plan i j
  pub above : (k : ℕ) → k < i → IsRowReached plan k (count_of plan)

-- whether the second of two sites is the later one and they don't reach their round trip
abbrev pub is_short : PlanData → ℕ → ℕ → Bool
is_short plan i j = nat_lt i j && nat_lt (latency plan i + latency plan j) (2 * rtt plan i j)

-- the first later site that a site is short of
abbrev pub short_of : PlanData → ℕ → Option ℕ
short_of plan i = find (is_short plan i) (sites_of plan)

-- the first site that is short of a later one, and the first such
abbrev pub first_short_of : PlanData → Option (ℕ × ℕ)
first_short_of plan = option_and_then (λ i. option_map (λ j. (i, j)) (short_of plan i)) (find (λ i. is_some (short_of plan i)) (sites_of plan))

-- the first short pair is found where there is one, and none in an accepted plan
pub record FindsShort (plan : PlanData) : Type 0 where
  pub found : (i j : ℕ) → IsFirstShort plan i j → first_short_of plan ≡ Some (i, j)
  pub none : IsAccepted plan → first_short_of plan ≡ None

abbrev pub EachShortPairIsFound : Type 0
EachShortPairIsFound = (plan : PlanData) → FindsShort plan
