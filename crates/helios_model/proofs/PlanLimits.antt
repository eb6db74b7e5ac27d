-- A plan's numbers, read at any place, are within their limits.
use Rattle.std.proofs.Common.{◌≡◌, inl, inr, ℕ, ◌+◌, ◌*◌, ◌<◌, ◌≤◌, ◌^◌, List, length, get_or, arith}
use Rattle.std.specs.List.{All, sum}
use Rattle.std.proofs.lemmas.Bool.{cases_lt}
use Rattle.std.proofs.lemmas.List.{get_or_past}
use Rattle.std.proofs.lemmas.List.Elements.{All-get_or}
use Rattle.std.proofs.lemmas.List.Sums.{sum_by-le}
use Rattle.std.proofs.Math.Nat.{mul-le-mul_right}
use Rattle.helios_model.specs.Limits.{greatest_latency, longest_trip}
use Rattle.helios_model.specs.Plans.{PlanData, IsMatrix, IsPlan, count_of, rtt, latency}

-- a bound on each item, read at any place
bounded_at : (m : ℕ) (xs : List ℕ) → All (λ x. x ≤ m) xs → (i : ℕ) → get_or xs i 0 ≤ m
bounded_at m xs bounded i = elim (cases_lt i (length xs)) [ inl within ↦ All-get_or (λ x. x ≤ m) xs i 0 within bounded | inr past ↦ (let none : get_or xs i 0 ≡ 0 = get_or_past xs i 0 past in omega arith) ]

pub short_at : (names : List (List ℕ)) (trips : List ℕ) → IsMatrix names trips → (place : ℕ) → get_or trips place 0 ≤ longest_trip
short_at names trips limits place = bounded_at longest_trip trips limits.short place

pub trip_bounded : (plan : PlanData) → IsPlan plan.names plan.trips plan.latencies → (i j : ℕ) → rtt plan i j ≤ longest_trip
trip_bounded plan limits i j = bounded_at longest_trip plan.trips limits.matrix.short (i * count_of plan + j)

pub latency_bounded : (plan : PlanData) → IsPlan plan.names plan.trips plan.latencies → (i : ℕ) → latency plan i ≤ greatest_latency
latency_bounded plan limits i = bounded_at greatest_latency plan.latencies limits.bounded i

-- the latencies fit 64 bits together
pub latencies_fit : (names : List (List ℕ)) (trips latencies : List ℕ) → IsPlan names trips latencies → sum latencies < 2 ^ 64
latencies_fit names trips latencies limits =
    let whole : sum latencies ≤ length latencies * greatest_latency = sum_by-le (λ x. x) greatest_latency latencies limits.bounded in
    let few : length latencies ≤ 32 = (let long : length latencies ≡ length names = limits.planned in let most : length names ≤ 32 = limits.matrix.few in omega arith) in
    let most : length latencies * greatest_latency ≤ 32 * greatest_latency = mul-le-mul_right greatest_latency few in
    omega arith
