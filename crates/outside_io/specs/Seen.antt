-- What a source, a sink, a net and a clock tell of themselves.
use Rattle.std.specs.Prelude.{ℕ, Bool, List, Option}

-- what a source tells
pub record SourceSeen : Type 0 where
  -- the bytes still to come, where it tells them
  pub left : Option (List ℕ)
  -- how many reads have failed
  pub faults : ℕ

-- what a sink tells
pub record SinkSeen : Type 0 where
  -- all bytes that it has taken, where it tells them
  pub taken : Option (List ℕ)
  -- how many writes have failed
  pub faults : ℕ

-- what was said on one connection that was taken
pub record Talk : Type 0 where
  -- the address that was dialled; empty after an accept
  pub dialled : List ℕ
  -- the bytes written on it
  pub sent : List ℕ
  -- the bytes read from it
  pub got : List ℕ
  -- whether a read of it has given the end of its input
  pub at_end : Bool

-- what a net tells that tells its contents
pub record NetTold : Type 0 where
  -- the address of the last listen that answered Ok
  pub place : List ℕ
  -- how many listens have answered Ok; the number stands still at the last one that a `u64` can be
  pub listened : ℕ
  -- the bytes of the peers to come, one list for each
  pub waiting : List (List ℕ)
  -- the bytes still to come on the connection that stands
  pub left : List ℕ
  -- what was said on each connection taken, in order; it stays when the connection ends
  pub talks : List Talk

-- what a net tells
pub record NetSeen : Type 0 where
  -- whether it listens, and whether a connection stands
  pub listens : Bool
  pub stands : Bool
  -- how many calls of listen, accept and dial have failed, and how many reads and writes
  pub call_faults : ℕ
  pub line_faults : ℕ
  -- its contents, where it tells them
  pub told : Option NetTold

-- what a clock tells
pub record ClockSeen : Type 0 where
  -- the readings to come, where it tells them
  pub readings : Option (List ℕ)
