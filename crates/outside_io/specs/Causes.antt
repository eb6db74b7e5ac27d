-- When a call to the outside may answer that it failed, and what no call changes.
use Rattle.std.specs.Prelude.{◌≡◌, ℕ, ◌+◌, ◌-◌, ◌^◌, ◌≤◌, min, Option, Result, is_some, OnErr, OnOk}

-- one more; a count stands still at the last number that a `u64` can be
abbrev pub one_more : ℕ → ℕ
one_more count = min (count + 1) (2 ^ 64 - 1)

-- a count of faults has risen since `before`, or stands at the last number that it can be
abbrev pub Rose : ℕ → ℕ → Type 0
Rose before now = one_more before ≤ now

-- a count of faults never falls: where the call failed it rose, and where it did not it stands
pub record HasCause {T E : Type 0} (before now : ℕ) (result : Result T E) : Type 0 where
  pub later : before ≤ now
  pub failed : OnErr result (Rose before now)
  pub steady : OnOk result (now ≡ before)

-- a count of faults is no more than a `u64` can be
abbrev pub IsCount : ℕ → Type 0
IsCount faults = faults ≤ 2 ^ 64 - 1

-- what was told before is told now, and what was not told is not told now
abbrev pub StaysTold : {T : Type 0} → Option T → Option T → Type 0
StaysTold old new = is_some new ≡ is_some old
