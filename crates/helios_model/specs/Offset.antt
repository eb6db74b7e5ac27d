-- The planned offset between two sites, and the tests of it without a subtraction.
use Rattle.std.specs.Prelude.{◌≢◌, ◌↔◌, ℕ, ℤ, pos, ◌+ℤ◌, ◌-ℤ◌, ◌≤ℤ◌, ◌+◌, ◌≤◌, Bool, IsTrue, nat_eq, nat_le, if◌then◌else◌}
use Rattle.helios_model.specs.Plans.{PlanData, rtt, latency}

-- the planned offset from site i to site j, in half microseconds
abbrev pub offset : PlanData → ℕ → ℕ → ℤ
offset plan i j = if nat_eq i j then pos 0 else pos (latency plan i) -ℤ pos (rtt plan i j)

-- a time of another site j is at least the time q of site i and the offset between them, said without a subtraction
abbrev pub is_past : PlanData → ℕ → ℕ → ℕ → ℕ → Bool
is_past plan i j q time = nat_le (q + latency plan i) (time + rtt plan i j)

-- a time of another site j is at most the time q of site i and the offset between them
abbrev pub IsWithin : PlanData → ℕ → ℕ → ℕ → ℕ → Type 0
IsWithin plan i j q time = time + rtt plan i j ≤ q + latency plan i

-- the two tests say what the signed offset says
pub record OffsetIsTested (plan : PlanData) (i j q time : ℕ) : Type 0 where
  pub past : (pos q +ℤ offset plan i j) ≤ℤ pos time ↔ IsTrue (is_past plan i j q time)
  pub within : pos time ≤ℤ (pos q +ℤ offset plan i j) ↔ IsWithin plan i j q time

abbrev pub OffsetsAreTested : Type 0
OffsetsAreTested = (plan : PlanData) (i j q time : ℕ) → i ≢ j → OffsetIsTested plan i j q time
