-- Unread bytes in a buffer.
use Rattle.std.specs.Prelude.{◌≡◌, ℕ, ◌+◌, ◌-◌, ◌<◌, true, false, List, [], ◌++◌, length, take, drop}
use Rattle.outside_io.specs.Causes.{Rose}
use Rattle.outside_io.specs.Net.{Talks}
use Rattle.outside_io.specs.Seen.{NetSeen}
use Rattle.node_server.specs.declared.arrival.Arrival.{Arrival}
use Rattle.node_server.specs.declared.arrival.Arrival.TheVariants.{Bytes, End, Failed, NoMemory}

-- the bytes from one place to another
abbrev pub unread_in : List ℕ → ℕ → ℕ → List ℕ
unread_in bytes from to = drop from (take to bytes)

-- the bytes from one place to another stand at a place now, with room behind them
pub record KeepsUnread (old new : List ℕ) (from to place : ℕ) : Type 0 where
  pub same : unread_in new place (place + (to - from)) ≡ unread_in old from to
  pub room : place + (to - from) < length new

-- these bytes came, or why none came
abbrev pub Brings : NetSeen → NetSeen → List ℕ → Arrival → Type 0
Brings old new got Bytes = Talks old new [] got false × (0 < length got) × (new.line_faults ≡ old.line_faults)
Brings old new got End = Talks old new [] got true × (got ≡ []) × (new.line_faults ≡ old.line_faults)
Brings old new got Failed = Talks old new [] got false × (got ≡ []) × Rose old.line_faults new.line_faults
Brings old new got NoMemory = (new ≡ old) × (got ≡ [])

-- what one read brings stands behind the bytes that were unread
pub record Fills (unread rest : List ℕ) (old new : NetSeen) (arrival : Arrival) : Type 0 where
  pub kept : rest ≡ unread ++ drop (length unread) rest
  pub brings : Brings old new (drop (length unread) rest) arrival

-- So far these bytes came behind those that were unread at first, and the input has not ended.
pub record Reads (first now : List ℕ) (old new : NetSeen) : Type 0 where
  pub got : List ℕ
  pub talks : Talks old new [] got false
  pub behind : now ≡ first ++ got
  pub steady : new.line_faults ≡ old.line_faults
