-- What the sources and sinks in memory hold.
use Rattle.std.specs.Prelude.{ℕ, ◌+◌, ◌^◌, List, min}

-- a source in memory: the bytes still to come, the most that one read gives, the numbers of the
-- calls that fail, how many calls have come, and how many faults were counted
pub record MemoryInput : Type 0 where
  pub left : List ℕ
  pub piece : ℕ
  pub fails : List ℕ
  pub calls : ℕ
  pub faults : ℕ

-- a sink in memory: the bytes taken, how many more there is room for, the most that one write
-- takes, the numbers of the calls that fail, how many calls have come, and how many faults were counted
pub record MemoryOutput : Type 0 where
  pub taken : List ℕ
  pub room : ℕ
  pub piece : ℕ
  pub fails : List ℕ
  pub calls : ℕ
  pub faults : ℕ

-- one call more; the count stands still at 2^64, which no number of a call that fails can be
abbrev pub next_call : ℕ → ℕ
next_call calls = min (calls + 1) (2 ^ 64)
